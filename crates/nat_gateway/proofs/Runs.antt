-- Runs of taken ports.
use Rattle.std.proofs.Common.{◌≡◌, ◌≤◌, ◌<◌, ◌+◌, ℕ, Bool, true, false, List, Option, Some, cond, refl, sym, ap, ◌∙◌, inl, inr, is_some, ltb, subst, arith}
use Rattle.std.proofs.lemmas.Bool.{cases_Bool, ltb-true, ltb-false}
use Rattle.nat_gateway.specs.declared.sent.Sent.{Sent}
use Rattle.nat_gateway.specs.Sent.{same_sent, with_port}
use Rattle.nat_gateway.specs.Tables.{AllUsed, AreRuns, IsRun, SameUsed, is_used, value_at}
use Rattle.nat_gateway.proofs.Values.{same_sent-true}

-- one table is another with a value at a key
pub record IsPut (old new : List (Sent × ℕ)) (key : Sent) (v : ℕ) : Type 0 where
  pub at : (k : Sent) → value_at new k ≡ cond (same_sent key k) (Some v) (value_at old k)

some-stays : (b : Bool) (v : ℕ) (o r : Option ℕ) → r ≡ cond b (Some v) o → is_some o ≡ true → is_some r ≡ true
some-stays true v o r e some = ap is_some e
some-stays false v o r e some = ap is_some e ∙ some

-- what is taken stays so
used-stays : (old new : List (Sent × ℕ)) (key : Sent) (v : ℕ) → IsPut old new key v → (flow : Sent) (port : ℕ) → is_used old flow port ≡ true → is_used new flow port ≡ true
used-stays old new key v put flow port used = some-stays (same_sent key (with_port flow port)) v (value_at old (with_port flow port)) (value_at new (with_port flow port)) (put.at (with_port flow port)) used

same_number : (a b : ℕ) → Some a ≡ Some b → a ≡ b
same_number a b e = cc

-- runs stay runs where a run is put
pub runs-put : (old new : List (Sent × ℕ)) (key : Sent) (v : ℕ) → IsPut old new key v → AreRuns old → key.header.p < v → v ≤ 65536
    → ((port : ℕ) → key.header.p < port → port < v → is_used old key port ≡ true) → AreRuns new
runs-put old new key v put runs later most all k end is =
    elim (cases_Bool (same_sent key k)) [
      | inl here ↦
          let e = same_sent-true key k here in
          let here_is : value_at new k ≡ Some v = put.at k ∙ rw here refl in
          let n = same_number end v (sym is ∙ here_is) in
          subst (λ (q : Sent). IsRun new q end) e (rw n (own (subst (λ (q : Sent). value_at new q ≡ Some v) (sym e) here_is)))
      | inr other ↦
          let was : value_at old k ≡ Some end = (rw other at (sym (put.at k))) ∙ is in
          let run = runs k end was in
          record { later = run.later; most = run.most; used = λ port a b. used-stays old new key v put k port (run.used port a b) }
    ]
  where
    own : value_at new key ≡ Some v → IsRun new key v
    own at_key = record {
      later = later;
      most = most;
      used = λ port a b. elim (cases_Bool (ltb key.header.p port)) [
        | inl above ↦ let less = ltb-true key.header.p port above in used-stays old new key v put key port (all port less b)
        | inr not_above ↦
            let up = ltb-false key.header.p port not_above in
            let here : key.header.p ≡ port = omega arith in
            subst (λ x. is_used new key x ≡ true) here (ap is_some at_key)
      ];
    }

-- all taken from a port on, and from where that ends on
pub used-join : (table : List (Sent × ℕ)) (flow : Sent) (from middle end : ℕ) → AllUsed table flow from middle → AllUsed table flow middle end → AllUsed table flow from end
used-join table flow from middle end first second port a b =
    elim (cases_Bool (ltb port middle)) [
      | inl below ↦ first port a (ltb-true port middle below)
      | inr above ↦ second port (ltb-false port middle above) b
    ]

pub used-nothing : (table : List (Sent × ℕ)) (flow : Sent) (from : ℕ) → AllUsed table flow from from
used-nothing table flow from port a b = absurd (omega arith)

some-same : (b : Bool) (v : ℕ) (o r : Option ℕ) → r ≡ cond b (Some v) o → (b ≡ true → is_some o ≡ true) → is_some r ≡ is_some o
some-same true v o r e some = ap is_some e ∙ sym (some refl)
some-same false v o r e some = ap is_some e

-- another end beside a taken port takes no other
pub same_used-put : (old new : List (Sent × ℕ)) (key : Sent) (v : ℕ) → IsPut old new key v → is_some (value_at old key) ≡ true → SameUsed new old
same_used-put old new key v put some flow port =
    some-same (same_sent key (with_port flow port)) v (value_at old (with_port flow port)) (value_at new (with_port flow port)) (put.at (with_port flow port))
    (λ here. subst (λ (q : Sent). is_some (value_at old q) ≡ true) (same_sent-true key (with_port flow port) here) some)

-- a port is taken
pub runs-take : (old new : List (Sent × ℕ)) (key : Sent) (v : ℕ) → v ≡ key.header.p + 1 → key.header.p < 65536 → AreRuns old
    → ((k : Sent) → value_at new k ≡ cond (same_sent key k) (Some v) (value_at old k)) → AreRuns new
runs-take old new key v e fits runs put = runs-put old new key v (record { at = put }) runs (omega arith) (omega arith) (λ x a b. absurd (omega arith))

-- another end is written beside a taken port
pub runs-shorten : (old new : List (Sent × ℕ)) (flow key : Sent) (port end : ℕ) → key ≡ with_port flow port → port < end → end ≤ 65536 → AllUsed old flow port end → AreRuns old
    → ((k : Sent) → value_at new k ≡ cond (same_sent key k) (Some end) (value_at old k)) → AreRuns new
runs-shorten old new flow key port end e later most used runs put =
    runs-put old new (with_port flow port) end (subst (λ (k : Sent). IsPut old new k end) e (record { at = put })) runs later most (λ x a b. used x (omega arith) b)
