-- A step keeps the translations in order.
use Rattle.std.proofs.Common.{◌≡◌, ℕ, ◌≤◌, ◌<◌, ◌^◌, ◌==◌, ◌&&◌, Bool, true, false, List, [], ◌∷◌, ◌++◌, Option, Some, None, ap, refl, cond, ◌∙◌, sym, arith, subst, inl, inr}
use Rattle.std.specs.List.{list_any, count_by, find, AllByRecursion, IsDistinct}
use Rattle.std.proofs.lemmas.Bool.{cond_both, and_parts, and_from, eqb-true, eq-eqb, or_parts, or_from, leb-false, cases_Bool}
use Rattle.vpc_base.specs.declared.headers.Label.TheVariants.{Opening, Answer}
use Rattle.vpc_base.proofs.Tests.{count_by-push}
use Rattle.vpc_laws.specs.Types.{Description, Header, Label, NatNo, Place}
use Rattle.vpc_laws.specs.Translations.{IsBook, IsTranslation, collide, same_before}
use Rattle.vpc_model.specs.Appliances.{Appliances}
use Rattle.vpc_model.specs.Connections.{same_header}
use Rattle.vpc_model.specs.Lookup.{nat_at}
use Rattle.vpc_model.specs.Nat.{Translation, is_full, is_translatable, new_translation, shares, translation_of}
use Rattle.vpc_model.specs.Step.{step_at, step_of}
use Rattle.vpc_model.specs.Step.Nat.{own_address, step_nat_out, translate}
use Rattle.vpc_model.specs.Step.Words.{Moment, Step}
use Rattle.vpc_laws.proofs.ByMemory.{by_memory}
use Rattle.vpc_laws.proofs.Growth.{step_into-nats, step_out-nats}
use Rattle.vpc_laws.proofs.Ports.{count_by-le, free_port_is_free, new_translation-fits}

-- ---- lists with one more item

pub AllByRecursion-push : {X : Type 0} (P : X → Type 0) (xs : List X) (x : X) → AllByRecursion P xs → P x → AllByRecursion P (xs ++ x ∷ [])
AllByRecursion-push P [] x all here = (here, tt)
AllByRecursion-push P (y ∷ ys) x all here = (all.0, AllByRecursion-push P ys x all.1 here)

pub IsDistinct-push_new : {X : Type 0} (same : X → X → Bool) (xs : List X) (x : X) → IsDistinct same xs → list_any (λ y. same y x) xs ≡ false → IsDistinct same (xs ++ x ∷ [])
unfolding IsDistinct
IsDistinct-push_new same [] x apart new = (tt, tt)
IsDistinct-push_new same (y ∷ ys) x apart new =
    let parts = or_parts (same y x) (list_any (λ z. same z x) ys) new in
    (AllByRecursion-push (λ z. same y z ≡ false) ys x apart.0 parts.0, IsDistinct-push_new same ys x apart.1 parts.1)

pub find-none : {X : Type 0} (test : X → Bool) (xs : List X) → find test xs ≡ None → list_any test xs ≡ false
find-none test [] e = refl
find-none test (x ∷ xs) e =
    elim (cases_Bool (test x)) [
      | inl here ↦ let found = (rw here at e) in cc
      | inr not_here ↦ or_from (test x) (list_any test xs) not_here (find-none test xs (rw not_here at e))
    ]

-- ---- one more translation

-- what shares with a header that the translation shares with, shares with the translation's header too
shares-over : (n k : NatNo) (h g : Header) (t s : Translation) → t.nat.0 ≡ n.0 → t.after.proto ≡ h.proto → t.after.dst ≡ h.dst → t.after.q ≡ h.q
    → shares k g t ≡ true → shares k g s ≡ true → shares n h s ≡ true
shares-over n k h g t s nat proto dst q at_t at_s =
    let t_rest = (t.after.dst == g.dst) && (t.after.q == g.q) in
    let s_rest = (s.after.dst == g.dst) && (s.after.q == g.q) in
    let t1 = and_parts (t.nat.0 == k.0) ((t.after.proto == g.proto) && t_rest) at_t in
    let s1 = and_parts (s.nat.0 == k.0) ((s.after.proto == g.proto) && s_rest) at_s in
    let t2 = and_parts (t.after.proto == g.proto) t_rest t1.1 in
    let s2 = and_parts (s.after.proto == g.proto) s_rest s1.1 in
    let t3 = and_parts (t.after.dst == g.dst) (t.after.q == g.q) t2.1 in
    let s3 = and_parts (s.after.dst == g.dst) (s.after.q == g.q) s2.1 in
    and_from (s.nat.0 == n.0) ((s.after.proto == h.proto) && ((s.after.dst == h.dst) && (s.after.q == h.q)))
    (eq-eqb s.nat.0 n.0 (eqb-true s.nat.0 k.0 s1.0 ∙ sym (eqb-true t.nat.0 k.0 t1.0) ∙ nat))
    (and_from (s.after.proto == h.proto) ((s.after.dst == h.dst) && (s.after.q == h.q))
    (eq-eqb s.after.proto h.proto (eqb-true s.after.proto g.proto s2.0 ∙ sym (eqb-true t.after.proto g.proto t2.0) ∙ proto))
    (and_from (s.after.dst == h.dst) (s.after.q == h.q)
    (eq-eqb s.after.dst h.dst (eqb-true s.after.dst g.dst s3.0 ∙ sym (eqb-true t.after.dst g.dst t3.0) ∙ dst))
    (eq-eqb s.after.q h.q (eqb-true s.after.q g.q s3.1 ∙ sym (eqb-true t.after.q g.q t3.1) ∙ q))))

few-push : (ts : List Translation) (n : NatNo) (h : Header) (t : Translation) → t.nat.0 ≡ n.0 → t.after.proto ≡ h.proto → t.after.dst ≡ h.dst → t.after.q ≡ h.q
    → count_by (shares n h) ts < 55000 → ((k : NatNo) (g : Header) → count_by (shares k g) ts ≤ 55000) → (k : NatNo) (g : Header) → count_by (shares k g) (ts ++ t ∷ []) ≤ 55000
few-push ts n h t nat proto dst q room few k g =
    let pushed = count_by-push (shares k g) ts t in
    elim (cases_Bool (shares k g t)) [
      | inl here ↦
          let least = count_by-le (shares k g) (shares n h) (λ s. shares-over n k h g t s nat proto dst q here) ts in
          let one : cond {A = ℕ} (shares k g t) 1 0 ≡ 1 = rw here in
          omega arith
      | inr other ↦
          let none : cond {A = ℕ} (shares k g t) 1 0 ≡ 0 = rw other in
          let old = few k g in
          omega arith
    ]

pub new-book : (ts : List Translation) (n : NatNo) (own : ℕ) (h : Header) → h.p < 2 ^ 16 → is_translatable h.proto ≡ true → translation_of ts n h ≡ None → is_full ts n h ≡ false → IsBook ts → IsBook (ts ++ new_translation ts n own h ∷ [])
new-book ts n own h fits translatable none room book =
    let t = new_translation ts n own h in
    let ports = new_translation-fits ts n own h fits in
    let few = leb-false 55000 (count_by (shares n h) ts) room in
    record {
      translations = AllByRecursion-push IsTranslation ts t book.translations (record { proto = refl; dst = refl; q = refl; translatable = translatable; least = ports.0; most = λ _. ports.1 });
      once = IsDistinct-push_new same_before ts t book.once (find-none (λ s. (s.nat.0 == n.0) && same_header s.before h) ts none);
      apart = IsDistinct-push_new collide ts t book.apart (free_port_is_free ts n h fits (omega arith));
      few = few-push ts n h t refl refl refl refl few book.few;
    }

-- ---- steps

translate-book : (d : Description) (n : NatNo) (m : Moment) (t : Option Translation) → m.header.p < 2 ^ 16 → is_translatable m.header.proto ≡ true → translation_of m.nats n m.header ≡ t → IsBook m.nats → IsBook (translate d n m t).nats
translate-book d n m (Some t) fits translatable is book = book
translate-book d n m None fits translatable is book =
    let row = nat_at d n in
    cond_both (is_full m.nats n m.header) _ _ (λ (s : Step). IsBook s.nats)
    (λ _. book) (λ room. new-book m.nats n (own_address row.life) m.header fits translatable is room book)

step_nat_out-book : (d : Description) (label : Label) (n : NatNo) (m : Moment) → m.header.p < 2 ^ 16 → IsBook m.nats → IsBook (step_nat_out d label n m).nats
step_nat_out-book d Answer n m fits book = book
step_nat_out-book d Opening n m fits book =
    cond_both (is_translatable m.header.proto) (translate d n m (translation_of m.nats n m.header)) _ (λ (s : Step). IsBook s.nats)
    (λ translatable. translate-book d n m (translation_of m.nats n m.header) fits translatable refl book) (λ _. book)

same-book : (before after : List Translation) → after ≡ before → IsBook before → IsBook after
same-book before after e book = subst IsBook (sym e) book

pub step_at-book : (d : Description) (appliances : Appliances) (label : Label) (p : Place) (m : Moment) → m.header.p < 2 ^ 16 → IsBook m.nats → IsBook (step_at d appliances label p m).nats
step_at-book d appliances label p m fits book =
    by_memory (λ q. IsBook (step_at d appliances label q m).nats)
    (λ i. same-book m.nats _ (step_out-nats d label i m) book) (λ i. same-book m.nats _ (step_into-nats d appliances label i m) book)
    (λ n. step_nat_out-book d label n m fits book)
    (λ q rest. same-book m.nats _ (ap (λ (s : Step). s.nats) (rest.step d appliances label m)) book) p

pub step_keeps_book : (d : Description) (appliances : Appliances) (label : Label) (m : Moment) → m.header.p < 2 ^ 16 → IsBook m.nats → IsBook (step_of d appliances label m).nats
step_keeps_book d appliances label m fits book = step_at-book d appliances label m.place m fits book

pub IsBook-nil : IsBook []
unfolding IsDistinct
IsBook-nil = record { translations = tt; once = tt; apart = tt; few = λ n h. omega arith }
