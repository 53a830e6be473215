-- How far addresses are delegated alike, by the keys of a VPC.
use Rattle.std.proofs.Common.{◌≡◌, ◌∙◌, ◌*◌, ◌+◌, ◌-◌, ◌<◌, ◌^◌, ◌≤◌, ◌⊎◌, [], ℕ, Bool, Contains, IfSome, List, None, Option, Some, ap, arith, cond, false, inl, inr, length, nat_lt, position, refl, subst, sym, true}
use Rattle.std.proofs.lemmas.Bool.{ltb-false, ltb-true}
use Rattle.std.proofs.lemmas.List.Elements.{All-contains}
use Rattle.std.proofs.lemmas.List.Quantifiers.{position-Some}
use Rattle.number_tables.specs.Keys as keys
use Rattle.number_tables.specs.Runs.{IsStretch, value_of}
use Rattle.number_tables.specs.declared.runs.KeyRun.{KeyRun}
use Rattle.vpc_model.specs.Accepted.{duplicate_ids}
use Rattle.vpc_model.specs.Lookup.{no_interface}
use Rattle.vpc_model.specs.declared.numbers.VpcNo.{VpcNo}
use Rattle.vpc_model.specs.declared.rows.Description.{Description}
use Rattle.reference_check.specs.Blocks.{FindBlocks, IsBlockRun, block_ends, is_delegated}
use Rattle.reference_check.specs.Delegated.{IsDelegatedUpTo}
use Rattle.reference_check.specs.Hosts.{last_in, numbered}
use Rattle.reference_check.proofs.Owners.{id_of, numbered-key}

-- ---- the last address of a VPC up to a key

record IsLast (first key last : ℕ) : Type 0 where
  pub most : last ≤ 4294967295
  pub up_to : first + last ≤ key
  pub inside : last < 4294967295 → first + last ≡ key
  pub greatest : (b : ℕ) → b ≤ 4294967295 → first + b ≤ key → b ≤ last

is-last : (first key : ℕ) → first ≤ key → IsLast first key (last_in first key)
is-last first key le = by (nat_lt (key - first) 4294967295) refl
  where
    by : (t : Bool) → nat_lt (key - first) 4294967295 ≡ t → IsLast first key (cond t (key - first) 4294967295)
    by true e =
        let less = ltb-true (key - first) 4294967295 e in
        record { most = omega arith; up_to = omega arith; inside = λ lt. omega arith; greatest = λ b fits to. omega arith }
    by false e =
        let more = ltb-false (key - first) 4294967295 e in
        record { most = omega arith; up_to = omega arith; inside = λ lt. absurd (omega arith); greatest = λ b fits to. fits }

-- ---- stretches of keys

-- the number that a table tells of an address is that of the first interface with it in a block
told-number : (d : Description) (v : VpcNo) (b : ℕ) (runs : List (KeyRun ℕ)) → FindBlocks d runs → duplicate_ids d ≡ [] → v.0 < length d.vpcs → b < 2 ^ 32
    → value_of (keys.key_of v.0 b) runs ≡ position (is_delegated d (id_of d v) b) d.interfaces
told-number d v b runs find differ within small =
    let key = numbered-key d v b differ within in
    ap (λ k. value_of k runs) key.0 ∙ find.tell (id_of d v) b key.1 small

same-half : (v w a b : ℕ) → v * 4294967296 + a ≡ w * 4294967296 + b → a < 2 ^ 32 → b < 2 ^ 32 → a ≡ b
same-half v w a b e small fits = omega arith

pub delegated-up-to : (d : Description) (v : VpcNo) (a : ℕ) (runs : List (KeyRun ℕ)) (x : ℕ × Option ℕ) → FindBlocks d runs → duplicate_ids d ≡ [] → v.0 < length d.vpcs → v.0 < 2 ^ 32 → a < 2 ^ 32
    → IsStretch runs (keys.key_of v.0 a) x → IsDelegatedUpTo d v a (last_in (keys.key_of v.0 0) x.0, numbered x.1)
delegated-up-to d v a runs x find differ within fits small stretch =
    let from = stretch.from in
    let is = is-last (keys.key_of v.0 0) x.0 (omega arith) in
    record {
      from = is.greatest a (omega arith) (omega arith);
      alike = λ b ge le.
          let most = is.most in
          let upto = is.up_to in
          ap numbered (sym (told-number d v b runs find differ within (omega arith)) ∙ stretch.alike (keys.key_of v.0 b) (omega arith) (omega arith));
      ends = λ lt. bound (last_in (keys.key_of v.0 0) x.0) lt (is.inside lt) stretch.ends;
    }
  where
    bound : (last : ℕ) → last < 4294967295 → keys.key_of v.0 0 + last ≡ x.0 → (x.0 ≡ 18446744073709551615) ⊎ ((r : KeyRun ℕ) × Contains runs r × ((r.first ≡ x.0 + 1) ⊎ (r.last ≡ x.0)))
        → Contains (block_ends d.interfaces) (last + 1)
    bound last lt at (inl most) = absurd (omega arith)
    bound last lt at (inr (r, has, inl begins)) =
        let is = All-contains (IsBlockRun (block_ends d.interfaces)) runs r find.bounds has in
        let key = is.from in
        let small = is.small in
        let same = same-half is.vpc v.0 is.first (last + 1) (omega arith) small (omega arith) in
        subst (Contains (block_ends d.interfaces)) same is.begins
    bound last lt at (inr (r, has, inr ends)) =
        let is = All-contains (IsBlockRun (block_ends d.interfaces)) runs r find.bounds has in
        let key = is.to in
        let fit = is.fits in
        let same = same-half is.vpc v.0 is.last last (omega arith) fit (omega arith) in
        subst (λ n. Contains (block_ends d.interfaces) (n + 1)) same is.ends

-- the number that is told counts a row
pub stretch-counted : (d : Description) (v : VpcNo) (a : ℕ) (runs : List (KeyRun ℕ)) (x : ℕ × Option ℕ) → FindBlocks d runs → duplicate_ids d ≡ [] → v.0 < length d.vpcs → a < 2 ^ 32 → length d.interfaces < 2 ^ 32
    → IsStretch runs (keys.key_of v.0 a) x → IfSome x.1 (λ n. n < 2 ^ 32)
stretch-counted d v a runs x find differ within small counted stretch =
    by x.1 (sym (told-number d v a runs find differ within small) ∙ stretch.alike (keys.key_of v.0 a) (omega arith) stretch.from)
  where
    by : (o : Option ℕ) → position (is_delegated d (id_of d v) a) d.interfaces ≡ o → IfSome o (λ n. n < 2 ^ 32)
    by None e = tt
    by (Some n) e = let row = position-Some (is_delegated d (id_of d v) a) d.interfaces n no_interface e in let below = row.0 in omega arith
