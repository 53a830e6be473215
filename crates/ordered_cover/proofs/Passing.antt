-- A search for open numbers of q, which passes over the other sides.
use Rattle.std.proofs.Common.{◌≡◌, ◌≢◌, ◌≤◌, ◌<◌, ◌+◌, ◌-◌, ◌*◌, ◌^◌, ◌⊎◌, ℕ, true, false, Option, Some, None, IfSome, inl, inr, refl, ap, sym, ◌∙◌, arith, ⊎_elim}
use Rattle.std.proofs.lemmas.Bool.{cases_lt}
use Rattle.std.specs.Option.{is_some}
use Rattle.vpc_base.specs.declared.headers.Header.{Header}
use Rattle.vpc_base.proofs.Options.{some_if}
use Rattle.header_boxes.specs.Boxes.{holds, IsRangeWithin, IsValid, IsWithin, low_of}
use Rattle.header_boxes.specs.declared.boxes.Box5.{Box5}
use Rattle.header_boxes.proofs.Held.{IsIn, holds_from_in, holds_whole, in_from_holds, within_itself, within_trans}
use Rattle.ordered_cover.specs.Passed.{AreDecided, IsAfter, IsAsking, IsPassed, IsSidePassed, ahead, at_dst, at_end, at_p, at_proto, at_src}

-- ---- one side

abbrev IsBetween : ℕ × ℕ → ℕ → Type 0
IsBetween side x = (side.0 ≤ x) × (x ≤ side.1)

-- up to the end of a part, a number is passed or in the part, where that is so of the sides inside
side_reached : {I J : Type 0} (part asked : ℕ × ℕ) (x : ℕ) → part.0 ≡ asked.0 → part.1 ≤ asked.1 → x ≤ part.1 → I ⊎ J → IsSidePassed asked x I ⊎ (IsBetween part x × J)
side_reached part asked x low ends le inner =
    ⊎_elim
    (λ lt. inl (inl lt))
    (λ ge. ⊎_elim (λ i. inl (inr (omega (arith, ends, le), i))) (λ j. inr ((omega (arith, low, ge), le), j)) inner)
    (cases_lt x asked.0)

-- a search that goes on inside the part of this side
side_kept : {I J K : Type 0} (part asked : ℕ × ℕ) (x : ℕ) → part.0 ≡ asked.0 → part.1 ≤ asked.1 → (K → I ⊎ J) → IsSidePassed part x K → IsSidePassed asked x I ⊎ (IsBetween part x × J)
side_kept part asked x low ends inner (inl lt) = inl (inl (omega (arith, low, lt)))
side_kept part asked x low ends inner (inr k) = side_reached part asked x low ends k.0 (inner k.1)

-- a search that goes on after the part of this side
side_next : {I J K : Type 0} (part asked : ℕ × ℕ) (x last : ℕ) → part.0 ≡ asked.0 → part.1 ≤ asked.1 → (K → ⊥) → I ⊎ J → IsSidePassed (part.1 + 1, last) x K
    → IsSidePassed asked x I ⊎ (IsBetween part x × J)
side_next part asked x last low ends none inner (inl lt) = side_reached part asked x low ends (omega (arith, lt)) inner
side_next part asked x last low ends none inner (inr k) = absurd (none k.1)

-- nothing is passed where the search begins
side_none : {K : Type 0} (side : ℕ × ℕ) (x : ℕ) → side.0 ≤ x → (K → ⊥) → IsSidePassed side x K → ⊥
side_none side x begins none (inl lt) = absurd (omega (arith, begins, lt))
side_none side x begins none (inr k) = none k.1

-- ---- the four sides

-- the header is in the box but for its q
abbrev IsInBut : Box5 → Header → Type 0
IsInBut b h = IsBetween b.proto h.proto × (IsBetween b.src h.src × (IsBetween b.dst h.dst × IsBetween b.p h.p))

module _ {sides asked part : Box5} (within : IsWithin part asked) (low : low_of part ≡ low_of asked) (h : Header) (i : IsIn h sides) where
  on_p : h.p ≤ part.p.1 → (h.p < asked.p.0) ⊎ IsBetween part.p h.p
  on_p le = let e = ap (λ (k : Header). k.p) low in ⊎_elim inl (λ ge. inr (omega (arith, e, ge), le)) (cases_lt h.p asked.p.0)

  on_dst : {I J : Type 0} → h.dst ≤ part.dst.1 → I ⊎ J → IsSidePassed asked.dst h.dst I ⊎ (IsBetween part.dst h.dst × J)
  on_dst = side_reached part.dst asked.dst h.dst (ap (λ (k : Header). k.dst) low) within.dst.ends

  on_src : {I J : Type 0} → h.src ≤ part.src.1 → I ⊎ J → IsSidePassed asked.src h.src I ⊎ (IsBetween part.src h.src × J)
  on_src = side_reached part.src asked.src h.src (ap (λ (k : Header). k.src) low) within.src.ends

  in_dst : {I J K : Type 0} → (K → I ⊎ J) → IsSidePassed part.dst h.dst K → IsSidePassed asked.dst h.dst I ⊎ (IsBetween part.dst h.dst × J)
  in_dst = side_kept part.dst asked.dst h.dst (ap (λ (k : Header). k.dst) low) within.dst.ends

  in_src : {I J K : Type 0} → (K → I ⊎ J) → IsSidePassed part.src h.src K → IsSidePassed asked.src h.src I ⊎ (IsBetween part.src h.src × J)
  in_src = side_kept part.src asked.src h.src (ap (λ (k : Header). k.src) low) within.src.ends

  in_proto : {I J K : Type 0} → (K → I ⊎ J) → IsSidePassed part.proto h.proto K → IsSidePassed asked.proto h.proto I ⊎ (IsBetween part.proto h.proto × J)
  in_proto = side_kept part.proto asked.proto h.proto (ap (λ (k : Header). k.proto) low) within.proto.ends

  none_p : h.p < sides.p.0 → ⊥
  none_p lt = let b = i.p.0 in absurd (omega (arith, b, lt))

  none_dst : IsSidePassed sides.dst h.dst (h.p < sides.p.0) → ⊥
  none_dst = side_none sides.dst h.dst i.dst.0 none_p

  none_src : IsSidePassed sides.src h.src (IsSidePassed sides.dst h.dst (h.p < sides.p.0)) → ⊥
  none_src = side_none sides.src h.src i.src.0 none_dst

  up_to_end : {x y z : ℕ} → x ≡ y → z ≤ y → z ≤ x
  up_to_end e le = omega (arith, e, le)

  -- what the next box has passed, this one had passed, or it is in the part
  passed_next : {next : Option Box5} → IsAfter sides part next → IfSome next (λ n. IsPassed n h → IsPassed asked h ⊎ IsInBut part h)
  passed_next (at_p more) = in_proto (in_src (in_dst (λ lt. on_p (omega (arith, lt)))))
  passed_next (at_dst p more) =
      in_proto (in_src (side_next part.dst asked.dst h.dst sides.dst.1 (ap (λ (k : Header). k.dst) low) within.dst.ends none_p (on_p (up_to_end p i.p.1))))
  passed_next (at_src p dst more) =
      in_proto (side_next part.src asked.src h.src sides.src.1 (ap (λ (k : Header). k.src) low) within.src.ends none_dst (on_dst (up_to_end dst i.dst.1) (on_p (up_to_end p i.p.1))))
  passed_next (at_proto p dst src more) =
      side_next part.proto asked.proto h.proto sides.proto.1 (ap (λ (k : Header). k.proto) low) within.proto.ends none_src
      (on_src (up_to_end src i.src.1) (on_dst (up_to_end dst i.dst.1) (on_p (up_to_end p i.p.1))))
  passed_next (at_end p dst src proto) = tt

  -- where there is no next one, that is so of every header
  passed_all : {next : Option Box5} → IsAfter sides part next → next ≡ None → IsPassed asked h ⊎ IsInBut part h
  passed_all (at_end p dst src proto) e =
      side_reached part.proto asked.proto h.proto (ap (λ (k : Header). k.proto) low) within.proto.ends (up_to_end proto i.proto.1)
      (on_src (up_to_end src i.src.1) (on_dst (up_to_end dst i.dst.1) (on_p (up_to_end p i.p.1))))
  passed_all (at_p more) e = absurd cc
  passed_all (at_dst p more) e = absurd cc
  passed_all (at_src p dst more) e = absurd cc
  passed_all (at_proto p dst src more) e = absurd cc

-- ---- the search

rest : {part side : ℕ × ℕ} → IsRangeWithin part side → part.1 < side.1 → IsRangeWithin (part.1 + 1, side.1) side
rest w more = record { begins = omega (arith, w.begins, w.valid); valid = omega (arith, more); ends = omega arith }

all : {part side : ℕ × ℕ} → IsRangeWithin part side → IsRangeWithin side side
all w = record { begins = omega arith; valid = omega (arith, w.begins, w.valid, w.ends); ends = omega arith }

-- where it goes on lies in the sides, with the q of the part
next_within : {sides part : Box5} {next : Option Box5} → IsWithin part sides → IsAfter sides part next → IfSome next (λ n. IsWithin n sides × (n.q ≡ part.q))
next_within w (at_p more) =
    (record { proto = w.proto; src = w.src; dst = w.dst; p = rest w.p more; q = w.q }, refl)
next_within w (at_dst p more) =
    (record { proto = w.proto; src = w.src; dst = rest w.dst more; p = all w.p; q = w.q }, refl)
next_within w (at_src p dst more) =
    (record { proto = w.proto; src = rest w.src more; dst = all w.dst; p = all w.p; q = w.q }, refl)
next_within w (at_proto p dst src more) =
    (record { proto = rest w.proto more; src = all w.src; dst = all w.dst; p = all w.p; q = w.q }, refl)
next_within w (at_end p dst src proto) = tt

module _ {W : Type 0} {meaning : Header → Option W} {sides : Box5} where
  -- nothing was passed
  pub asking_at_start : IsValid sides → IsAsking meaning sides sides
  asking_at_start v = record {
    within = within_itself sides v;
    begins = refl;
    closed = λ h inside le passed.
        let i = in_from_holds h sides inside in
        absurd (side_none sides.proto h.proto i.proto.0 (none_src (within_itself sides v) refl h i) passed);
  }

  module _ {asked part : Box5} {word : Option W} (a : IsAsking meaning sides asked) (within : IsWithin part asked) (low : low_of part ≡ low_of asked)
      (means : (h : Header) → holds h part ≡ true → meaning h ≡ word) where
    within_sides : IsWithin part sides
    within_sides = within_trans part asked sides within a.within

    begins : part.q.0 ≡ sides.q.0
    begins = ap (λ (k : Header). k.q) low ∙ a.begins

    -- a header that was passed, or that is in the part, doesn't get through where the part doesn't
    still_closed : is_some word ≡ true → (h : Header) → IsIn h sides → h.q ≤ part.q.1 → IsPassed asked h ⊎ IsInBut part h → meaning h ≢ None
    still_closed some h i le (inl passed) n = a.closed h (holds_from_in h sides i) (let e = within.q.ends in omega (arith, e, le)) passed n
    still_closed some h i le (inr j) n =
        some_if word some
        (sym (means h (holds_from_in h part (record { proto = j.0; src = j.1.0; dst = j.1.1.0; p = j.1.1.1; q = (let b = i.q.0 in omega (arith, begins, b), le) }))) ∙ n)

    pub asking_next : {next : Option Box5} → is_some word ≡ true → IsAfter sides part next → IfSome next (IsAsking meaning sides)
    asking_next {next = None} some after = tt
    asking_next {next = Some n} some after =
        let w = next_within within_sides after in
        record {
          within = w.0;
          begins = ap (λ (r : ℕ × ℕ). r.0) w.1 ∙ begins;
          closed = λ h inside le passed.
              let i = in_from_holds h sides inside in
              let e = ap (λ (r : ℕ × ℕ). r.1) w.1 in
              still_closed some h i (omega (arith, e, le)) (passed_next within low h i after passed);
        }

    -- all q up to the last of the part are open, where the part gets through
    pub decided_open : is_some word ≡ false → AreDecided meaning sides part.q.1 true
    decided_open none = record {
      begins = let v = within.q.valid in omega (arith, v, begins);
      ends = within_sides.q.ends;
      each = λ q ge le. (
        (λ t.
            let h : Header = record { proto = part.proto.0; src = part.src.0; dst = part.dst.0; p = part.p.0; q = q } in
            let here : holds h part ≡ true = holds_from_in h part (record {
              proto = from_first within.proto.valid;
              src = from_first within.src.valid;
              dst = from_first within.dst.valid;
              p = from_first within.p.valid;
              q = (omega (arith, begins, ge), le);
            }) in
            record { header = h; inside = holds_whole h part sides within_sides here; port = refl; through = means h here ∙ no_some word none }),
        (λ o. refl),
      );
    }
      where
        from_first : {x y : ℕ} → x ≤ y → (x ≤ x) × (x ≤ y)
        from_first le = (omega arith, le)

        no_some : (o : Option W) → is_some o ≡ false → o ≡ None
        no_some None e = refl
        no_some (Some w) e = absurd cc

    -- none is, where no part got through
    pub decided_closed : {next : Option Box5} → is_some word ≡ true → IsAfter sides part next → next ≡ None → AreDecided meaning sides part.q.1 false
    decided_closed some after end = record {
      begins = let v = within.q.valid in omega (arith, v, begins);
      ends = within_sides.q.ends;
      each = λ q ge le. (
        (λ t. absurd cc),
        (λ o. let i = in_from_holds o.header sides o.inside in
            absurd (still_closed some o.header i (let e = o.port in omega (arith, e, le)) (passed_all within low o.header i after end) o.through)),
      );
    }

-- ---- that it ends

less_p : (a b c x y : ℕ) → x < y → a + (b + (c + x)) < a + (b + (c + y))
less_p a b c x y lt = omega (arith, lt)

less_dst : (a b d e x y : ℕ) → d < e → x < 2 ^ 16 → a + (b + (d * 2 ^ 16 + x)) < a + (b + (e * 2 ^ 16 + y))
less_dst a b d e x y lt small = omega (arith, lt, small)

less_src : (a s t d e x y : ℕ) → s < t → d < 2 ^ 32 → x < 2 ^ 16 → a + (s * 2 ^ 48 + (d * 2 ^ 16 + x)) < a + (t * 2 ^ 48 + (e * 2 ^ 16 + y))
less_src a s t d e x y lt small smaller = omega (arith, lt, small, smaller)

less_proto : (a b s t d e x y : ℕ) → a < b → s < 2 ^ 32 → d < 2 ^ 32 → x < 2 ^ 16 → a * 2 ^ 80 + (s * 2 ^ 48 + (d * 2 ^ 16 + x)) < b * 2 ^ 80 + (t * 2 ^ 48 + (e * 2 ^ 16 + y))
less_proto a b s t d e x y lt small smaller smallest = omega (arith, lt, small, smaller, smallest)

left_less : {part side : ℕ × ℕ} → IsRangeWithin part side → part.1 < side.1 → side.1 - (part.1 + 1) < side.1 - part.0
left_less w more = let v = w.valid in omega (arith, v, more)

left_small : (side : ℕ × ℕ) (n : ℕ) → side.1 < n → side.1 - side.0 < n
left_small side n lt = omega (arith, lt)

-- less lies ahead where the search goes on
pub ahead_falls : {sides part : Box5} {next : Option Box5} → sides.src.1 < 2 ^ 32 → sides.dst.1 < 2 ^ 32 → sides.p.1 < 2 ^ 16 → IsWithin part sides → IsAfter sides part next
    → IfSome next (λ n. ahead sides (low_of n) < ahead sides (low_of part))
ahead_falls {sides = sides} src dst p w (at_p more) = less_p _ _ _ _ _ (left_less w.p more)
ahead_falls {sides = sides} src dst p w (at_dst e more) = less_dst _ _ _ _ _ _ (left_less w.dst more) (left_small sides.p (2 ^ 16) p)
ahead_falls {sides = sides} src dst p w (at_src e f more) = less_src _ _ _ _ _ _ _ (left_less w.src more) (left_small sides.dst (2 ^ 32) dst) (left_small sides.p (2 ^ 16) p)
ahead_falls {sides = sides} src dst p w (at_proto e f g more) = less_proto _ _ _ _ _ _ _ _ (left_less w.proto more) (left_small sides.src (2 ^ 32) src) (left_small sides.dst (2 ^ 32) dst) (left_small sides.p (2 ^ 16) p)
ahead_falls {sides = sides} src dst p w (at_end e f g k) = tt
