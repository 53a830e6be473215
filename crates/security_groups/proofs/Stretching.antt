-- How far from an address on tests give one answer.
use Rattle.std.proofs.Common.{Bool, Contains, List, [], ap, arith, false, get_or, inl, inr, length, min, not, refl, subst, sym, take, true, ℕ, ◌&&◌, ◌+◌, ◌<◌, ◌||◌, ◌∙◌, ◌∷◌, ◌≡◌, ◌≤◌, ◌⊎◌}
use Rattle.std.specs.List.{list_any}
use Rattle.vpc_base.proofs.Lemmas.{cases_lt, list_any-append, list_any_at, or-false, take_all, take_more}
use Rattle.address_sets.specs.Runs.{IsStretch, is_in}
use Rattle.image_tests.specs.Types.{Image, Run, Side}
use Rattle.box_images.specs.Terms.{Answers, IsBody, field_of, greatest_of, header_at, number_of}
use Rattle.cut_laws.specs.Dividing.{DivideTurns}
use Rattle.vpc_laws.specs.Types.{Box5, Dir, Header}
use Rattle.image_tests.proofs.Lemmas.{least-number, number-greatest, stretch-cut}
use Rattle.image_tests.specs.Keys.{EndsBy, IsKeyStretch, low_on}
use Rattle.vpc_base.specs.Cuts.{CutLists}
use Rattle.vpc_model.specs.Filter.{far_address, is_between, matches_proto}
use Rattle.security_groups.specs.Terms.{AllowsNone, DivideMember, DivideRule, IsStretchOf, MemberSets, Rule, allows, has_block, has_entry, has_key, names}

-- ---- one test

-- of the addresses of a set
pub stretch-set : (set : List Run) (a : ℕ) (x : ℕ × Bool) → IsStretch set a x → IsStretchOf (DivideTurns (λ b. is_in b set)) (λ b. is_in b set) a x
stretch-set set a x s = record { from = s.from; alike = s.alike; cut = λ cuts divide below. turn cuts divide below s.turns }
  where
    turn : (cuts : CutLists) → DivideTurns (λ b. is_in b set) cuts → x.0 < 4294967295 → (x.0 ≡ 4294967295) ⊎ (is_in (x.0 + 1) set ≡ not x.1) → Contains cuts.addr (x.0 + 1)
    turn cuts divide below (inl e) = absurd (omega arith)
    turn cuts divide below (inr e) = divide x.0 below (e ∙ ap not (sym (s.alike x.0 s.from (omega arith))))

-- of the keys of a group
pub stretch-keys : (members : MemberSets) (keys : List ℕ) (g a : ℕ) (x : ℕ × Bool) → keys ≡ members.keys → IsKeyStretch keys g a x
    → IsStretchOf (DivideMember members g) (λ b. has_key members b g) a x
stretch-keys members keys g a x is found =
    let s = subst (λ (ks : List ℕ). IsKeyStretch ks g a x) is found in
    record { from = s.from; alike = s.alike; cut = λ cuts divide below. stretch-cut members.keys g a x cuts s divide.keys below }

-- of the blocks of a group
pub stretch-blocks : (members : MemberSets) (blocks : List (List Run)) (g a : ℕ) (x : ℕ × Bool) → blocks ≡ members.blocks
    → IsStretchOf (DivideTurns (λ b. has_entry blocks b g)) (λ b. has_entry blocks b g) a x → IsStretchOf (DivideMember members g) (λ b. has_block members b g) a x
stretch-blocks members blocks g a x is found =
    let s = subst (λ (bs : List (List Run)). IsStretchOf (DivideTurns (λ b. has_entry bs b g)) (λ b. has_entry bs b g) a x) is found in
    record { from = s.from; alike = s.alike; cut = λ cuts divide below. s.cut cuts divide.blocks below }

-- that no address passes
pub stretch-none : (enough : CutLists → Type 0) (test : ℕ → Bool) (a : ℕ) → a ≤ 4294967295 → ((b : ℕ) → test b ≡ false) → IsStretchOf enough test a (4294967295, false)
stretch-none enough test a fits none = record { from = fits; alike = λ b from to. none b; cut = λ cuts divide below. absurd (omega arith) }

-- where more cuts divide
pub stretch-more : (few more : CutLists → Type 0) (test : ℕ → Bool) (a : ℕ) (x : ℕ × Bool) → ((cuts : CutLists) → more cuts → few cuts) → IsStretchOf few test a x → IsStretchOf more test a x
stretch-more few more test a x less s = record { from = s.from; alike = s.alike; cut = λ cuts divide below. s.cut cuts (less cuts divide) below }

-- in other words
pub stretch-same : (enough : CutLists → Type 0) (f g : ℕ → Bool) (a : ℕ) (x : ℕ × Bool) → ((b : ℕ) → f b ≡ g b) → IsStretchOf enough f a x → IsStretchOf enough g a x
stretch-same enough f g a x same s = record { from = s.from; alike = λ b from to. sym (same b) ∙ s.alike b from to; cut = s.cut }

-- ---- either of two tests

-- the first one passes
pub stretch-first : (enough : CutLists → Type 0) (f g : ℕ → Bool) (a : ℕ) (x : ℕ × Bool) → x.1 ≡ true → IsStretchOf enough f a x → IsStretchOf enough (λ b. f b || g b) a x
stretch-first enough f g a x e s = record { from = s.from; alike = λ b from to. passes (f b) (g b) x.1 e (s.alike b from to); cut = s.cut }
  where
    passes : (p q v : Bool) → v ≡ true → p ≡ v → (p || q) ≡ v
    passes true q v e f = f
    passes false q v e f = absurd (let k : false ≡ true = f ∙ e in cc)

-- the second one does
pub stretch-second : (enough : CutLists → Type 0) (f g : ℕ → Bool) (a : ℕ) (x : ℕ × Bool) → x.1 ≡ true → IsStretchOf enough g a x → IsStretchOf enough (λ b. f b || g b) a x
stretch-second enough f g a x e s = record { from = s.from; alike = λ b from to. passes (f b) (g b) x.1 e (s.alike b from to); cut = s.cut }
  where
    passes : (p q v : Bool) → v ≡ true → q ≡ v → (p || q) ≡ v
    passes true q v e f = sym e
    passes false q v e f = f

-- neither does, up to the lesser of two last addresses
pub stretch-neither : (enough : CutLists → Type 0) (f g : ℕ → Bool) (a last : ℕ) (x y : ℕ × Bool) → x.1 ≡ false → y.1 ≡ false → last ≡ min x.0 y.0
    → IsStretchOf enough f a x → IsStretchOf enough g a y → IsStretchOf enough (λ b. f b || g b) a (last, false)
stretch-neither enough f g a last x y e k is s t = record {
  from = let here = s.from in let there = t.from in omega arith;
  alike = λ b from to. fails (f b) (g b) (s.alike b from (omega arith) ∙ e) (t.alike b from (omega arith) ∙ k);
  cut = λ cuts divide below. ends cuts divide below (cases_lt x.0 y.0);
}
  where
    fails : (p q : Bool) → p ≡ false → q ≡ false → (p || q) ≡ false
    fails true q e k = absurd cc
    fails false q e k = k

    ends : (cuts : CutLists) → enough cuts → last < 4294967295 → (x.0 < y.0) ⊎ (y.0 ≤ x.0) → Contains cuts.addr (last + 1)
    ends cuts divide below (inl less) = subst (λ n. Contains cuts.addr (n + 1)) (omega arith) (s.cut cuts divide (omega arith))
    ends cuts divide below (inr more) = subst (λ n. Contains cuts.addr (n + 1)) (omega arith) (t.cut cuts divide (omega arith))

-- ---- any of some tests

pub any-first : (enough : CutLists → Type 0) (test : ℕ → ℕ → Bool) (named : List ℕ) (a : ℕ) → a ≤ 4294967295
    → IsStretchOf enough (λ b. list_any (test b) (take 0 named)) a (4294967295, false)
any-first enough test named a fits = stretch-none enough (λ b. list_any (test b) (take 0 named)) a fits (λ b. refl)

pub any-next : (enough : CutLists → Type 0) (test : ℕ → ℕ → Bool) (named : List ℕ) (a k last next : ℕ) (x : ℕ × Bool) → k < length named → x.1 ≡ false → next ≡ min last x.0
    → IsStretchOf enough (λ b. list_any (test b) (take k named)) a (last, false) → IsStretchOf enough (λ b. test b (get_or named k 0)) a x
    → IsStretchOf enough (λ b. list_any (test b) (take (k + 1) named)) a (next, false)
any-next enough test named a k last next x below fails is s t =
    stretch-same enough (λ b. list_any (test b) (take k named) || test b (get_or named k 0)) (λ b. list_any (test b) (take (k + 1) named)) a (next, false) (λ b. sym (more b))
    (stretch-neither enough (λ b. list_any (test b) (take k named)) (λ b. test b (get_or named k 0)) a next (last, false) x refl fails is s t)
  where
    more : (b : ℕ) → list_any (test b) (take (k + 1) named) ≡ (list_any (test b) (take k named) || test b (get_or named k 0))
    more b =
        ap (list_any (test b)) (take_more named k 0 below)
        ∙ list_any-append (test b) (take k named) (get_or named k 0 ∷ [])
        ∙ ap (λ c. list_any (test b) (take k named) || c) (or-false (test b (get_or named k 0)))

pub any-found : (enough : CutLists → Type 0) (test : ℕ → ℕ → Bool) (named : List ℕ) (a k : ℕ) (x : ℕ × Bool) → k < length named → x.1 ≡ true
    → IsStretchOf enough (λ b. test b (get_or named k 0)) a x → IsStretchOf enough (λ b. list_any (test b) named) a x
any-found enough test named a k x below passes s = record {
  from = s.from;
  alike = λ b from to. list_any_at (test b) named k 0 below (s.alike b from to ∙ passes) ∙ sym passes;
  cut = s.cut;
}

pub any-all : (enough : CutLists → Type 0) (test : ℕ → ℕ → Bool) (named : List ℕ) (a k : ℕ) (x : ℕ × Bool) → length named ≤ k
    → IsStretchOf enough (λ b. list_any (test b) (take k named)) a x → IsStretchOf enough (λ b. list_any (test b) named) a x
any-all enough test named a k x ended s =
    stretch-same enough (λ b. list_any (test b) (take k named)) (λ b. list_any (test b) named) a x (λ b. ap (list_any (test b)) (take_all k named ended)) s

-- ---- asked of an image

-- whose body ends where the stretch does
pub stretch-answers : (enough : CutLists → Type 0) (test : ℕ → Bool) (i : Image) (s : Side) (low last : ℕ) (told : Bool) (b : Box5) → low ≡ low_on i s
    → IsStretchOf enough test low (last, told) → EndsBy i s last b
    → Answers enough (λ h. test (number_of (header_at i h) s)) i.part (record { body = b; told = told })
stretch-answers enough test i s low last told b is stretch ends = record {
  told = λ h t. sym (stretch.alike (number_of (header_at i h) s) (subst (λ (n : ℕ). n ≤ number_of (header_at i h) s) (sym is) (ends.from h t)) (ends.to h t));
  body = ends.body;
  aligned = λ cuts divide. ends.aligned cuts (λ below. stretch.cut cuts divide below);
}

-- a body has the lowest address of its part
pub low-of-rest : (i rest : Image) (b : Box5) (s : Side) → IsBody b i.part → rest ≡ record i { part = b } → low_on i s ≡ low_on rest s
low-of-rest i rest b s body image =
    ap (λ (h : Header). number_of (header_at i h) s) (sym body.low) ∙ sym (ap (λ (j : Image). low_on j s) image)

pub not-named : (lists : List (List Run)) (members : MemberSets) (dir : Dir) (h : Header) (r : Rule) → names lists members (far_address dir h) r ≡ false → allows lists members dir h r ≡ false
not-named lists members dir h r fails =
    ap (λ b. matches_proto r.proto h.proto && (is_between r.q_from r.q_to h.q && b)) fails ∙ nowhere (is_between r.q_from r.q_to h.q) (matches_proto r.proto h.proto)
  where
    nowhere : (a c : Bool) → (c && (a && false)) ≡ false
    nowhere true true = refl
    nowhere false true = refl
    nowhere true false = refl
    nowhere false false = refl

-- a rule that names none of its far addresses allows none of its headers
pub names-none : (lists : List (List Run)) (members : MemberSets) (dir : Dir) (r : Rule) (i : Image) (s : Side) (low most : ℕ) (x : ℕ × Bool) → ((h : Header) → number_of h s ≡ far_address dir h)
    → low ≡ low_on i s → most ≡ greatest_of (field_of i s) i.part → x.1 ≡ false → most ≤ x.0
    → IsStretchOf (DivideRule lists members r) (λ a. names lists members a r) low x → AllowsNone lists members dir i r
names-none lists members dir r i s low most x far is ends fails reaches stretch h t =
    let least = least-number i s h t in
    let greatest = number-greatest i s h t in
    not-named lists members dir (header_at i h) r
    (ap (λ a. names lists members a r) (sym (far (header_at i h))) ∙ stretch.alike (number_of (header_at i h) s) (omega arith) (omega arith) ∙ fails)
