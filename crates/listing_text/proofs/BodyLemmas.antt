-- The lines of all starts.
use Rattle.std.proofs.Common.{◌≡◌, ◌≤◌, ◌<◌, ◌+◌, ◌-◌, ◌++◌, ◌∷◌, ◌∙◌, ◌==◌, [], All, Bool, Contains, List, None, Option, ap, append_assoc, append-nil, arith, cond, drop, false, get_or, length, map, refl, subst, sym, take, true, ℕ}
use Rattle.std.proofs.lemmas.Bool.{eqb-true}
use Rattle.std.proofs.lemmas.Bool.Decides.{nat_tests}
use Rattle.std.proofs.lemmas.List.Elements.{All-contains, All-nil, All-push, Contains-append_right}
use Rattle.std.proofs.lemmas.List.Sums.{sum_by-cons, sum_by_push}
use Rattle.std.proofs.lemmas.List.{map-append, take-append-drop, take_more}
use Rattle.std.proofs.Math.Seq.{take-length}
use Rattle.std.specs.Prelude.{IfSome}
use Rattle.box_gather.specs.Over.{IsPartOver, IsWholeOver}
use Rattle.command_job.specs.declared.status.Status.{Status}
use Rattle.header_boxes.specs.declared.rows.Row.{Row}
use Rattle.vpc_base.specs.declared.headers.Header.{Header}
use Rattle.listing_text.specs.Answered.{IsTold, status_by}
use Rattle.listing_text.specs.Answered as answered
use Rattle.listing_text.specs.Bodies.{IsAdded, IsBody}
use Rattle.listing_text.specs.Bodies as bodies
use Rattle.listing_text.specs.Texts.{told_lines_from}
use Rattle.listing_text.specs.Told.{AreToldAll, AreToldInPart, IsToldFrom, StartRows, Wanted, row_count}

-- ---- one start more

-- its lines come after those of the others
module _ {S W : Type 0} (lines : ℕ → S → List (Row W) → List ℕ) where
  lines-more : (n : ℕ) (told : List (StartRows S W)) (t : StartRows S W)
      → told_lines_from lines n (told ++ t ∷ []) ≡ told_lines_from lines n told ++ lines (row_count told + n) t.start t.rows
  lines-more n [] t = append-nil (lines n t.start t.rows) ∙ ap (λ (m : ℕ). lines m t.start t.rows) (omega arith)
  lines-more n (s ∷ told) t =
      ap (λ (l : List ℕ). lines n s.start s.rows ++ l) (lines-more (n + length s.rows) told t)
      ∙ (sym (append_assoc (lines n s.start s.rows) (told_lines_from lines (n + length s.rows) told) (lines (row_count told + (n + length s.rows)) t.start t.rows))
      ∙ ap (λ (m : ℕ). (lines n s.start s.rows ++ told_lines_from lines (n + length s.rows) told) ++ lines m t.start t.rows)
      (let c = sum_by-cons (λ (x : StartRows S W). length x.rows) s told in omega (arith, c)))

module _ {S W : Type 0} (w : Wanted S W) (lines : ℕ → S → List (Row W) → List ℕ) where
  -- a start with all its rows, asked for in fewer
  whole-from : (start : S) (rows : List (Row W)) (room : ℕ) → room ≤ w.max
      → IsWholeOver (w.word start) w.cuts (w.boxes start) room rows → IsToldFrom w (record { start = start; rows = rows })
  whole-from start rows room fits k = record { rows_are = k.rows_are; holds_all = k.holds_all; few = let f = k.few in omega (arith, f, fits); cells = k.cells }

  -- all rows of the first starts, and no header left out
  pub record IsSoFar (starts : List S) (text : List ℕ) (count : ℕ) (next : Option (S × Header)) : Type 0 where
    pub told : List (StartRows S W)
    pub all : AreToldAll w starts told
    pub text_is : text ≡ told_lines_from lines 1 told
    pub count_is : count ≡ row_count told
    pub next_is : next ≡ None

  pub so_far-few : (starts : List S) (text : List ℕ) (count : ℕ) (next : Option (S × Header)) → IsSoFar starts text count next → count ≤ w.max
  so_far-few starts text count next s = let c = s.count_is in let f = s.all.few in omega (arith, c, f)

  pub so_far-none : (text : List ℕ) → text ≡ [] → IsSoFar [] text 0 None
  so_far-none text is = record {
    told = [];
    all = record { starts_are = refl; each = All-nil (IsToldFrom w); few = omega arith };
    text_is = is;
    count_is = refl;
    next_is = refl;
  }

  module _ (starts : List S) (k : ℕ) (start : S) (lt : k < length starts) (at : start ≡ get_or starts k start) where
    longer : take (k + 1) starts ≡ take k starts ++ start ∷ []
    longer = take_more starts k start lt ∙ ap (λ (e : S). take k starts ++ e ∷ []) (sym at)

    told-more : (told : List (StartRows S W)) (rows : List (Row W)) → AreToldAll w (take k starts) told
        → IsWholeOver (w.word start) w.cuts (w.boxes start) (w.max - row_count told) rows
        → AreToldAll w (take (k + 1) starts) (told ++ record { start = start; rows = rows } ∷ [])
    told-more told rows all whole = record {
      starts_are = map-append (λ (t : StartRows S W). t.start) told (record { start = start; rows = rows } ∷ []) ∙ (ap (λ (l : List S). l ++ start ∷ []) all.starts_are ∙ sym longer);
      each = All-push (IsToldFrom w) told (record { start = start; rows = rows }) all.each (whole-from start rows (w.max - row_count told) (omega arith) whole);
      few =
          let p = sum_by_push (λ (t : StartRows S W). length t.rows) told (record { start = start; rows = rows }) in
          let f = whole.few in let a = all.few in
          omega (arith, p, f, a);
    }

    lines-are : (told : List (StartRows S W)) (rows : List (Row W)) (old text : List ℕ) (count : ℕ) → old ≡ told_lines_from lines 1 told → count ≡ row_count told
        → text ≡ old ++ lines (count + 1) start rows → text ≡ told_lines_from lines 1 (told ++ record { start = start; rows = rows } ∷ [])
    lines-are told rows old text count old_is count_is is =
        is
        ∙ (ap (λ (l : List ℕ). l ++ lines (count + 1) start rows) old_is
        ∙ (ap (λ (n : ℕ). told_lines_from lines 1 told ++ lines (n + 1) start rows) count_is
        ∙ sym (lines-more lines 1 told (record { start = start; rows = rows }))))

    -- what follows where nothing is left out
    pub so_far-more : (old text : List ℕ) (old_count count : ℕ) (old_next next : Option (S × Header)) → IsSoFar (take k starts) old old_count old_next
        → IsAdded w lines start old old_count old_next text count next → next ≡ None → IsSoFar (take (k + 1) starts) text count next
    so_far-more old text old_count count old_next next s (bodies.added_all rows whole text_is count_is next_is) none =
        let more : IsWholeOver (w.word start) w.cuts (w.boxes start) (w.max - row_count s.told) rows
        = subst (λ (n : ℕ). IsWholeOver (w.word start) w.cuts (w.boxes start) (w.max - n) rows) s.count_is whole in
        record {
          told = s.told ++ record { start = start; rows = rows } ∷ [];
          all = told-more s.told rows s.all more;
          text_is = lines-are s.told rows old text old_count s.text_is s.count_is text_is;
          count_is = let p = sum_by_push (λ (t : StartRows S W). length t.rows) s.told (record { start = start; rows = rows }) in let c = s.count_is in omega (arith, count_is, c, p);
          next_is = none;
        }
    so_far-more old text old_count count old_next next s (bodies.added_part rows h part text_is count_is next_is) none = absurd (cc)

    -- and where a header is
    pub body-part : (old text : List ℕ) (old_count count : ℕ) (old_next next : Option (S × Header)) → IsSoFar (take k starts) old old_count old_next
        → IsAdded w lines start old old_count old_next text count next → (next ≡ None → ⊥) → IsBody w lines starts text count next
    body-part old text old_count count old_next next s (bodies.added_all rows whole text_is count_is next_is) some = absurd (some (next_is ∙ s.next_is))
    body-part old text old_count count old_next next s (bodies.added_part rows h part text_is count_is next_is) some =
        bodies.body_part s.told (record { start = start; rows = rows }) h
        (record {
          rest = drop (k + 1) starts;
          starts_are =
              ap (λ (l : List S). l ++ start ∷ drop (k + 1) starts) s.all.starts_are
              ∙ (sym (append_assoc (take k starts) (start ∷ []) (drop (k + 1) starts))
              ∙ (ap (λ (l : List S). l ++ drop (k + 1) starts) (sym longer) ∙ take-append-drop (k + 1) starts));
          each = s.all.each;
          few = s.all.few;
          part = subst (λ (n : ℕ). IsPartOver (w.word start) w.cuts (w.boxes start) (w.max - n) rows h) s.count_is part;
        })
        (lines-are s.told rows old text old_count s.text_is s.count_is text_is) next_is

  -- all starts
  pub body-whole : (starts : List S) (k : ℕ) (text : List ℕ) (count : ℕ) (next : Option (S × Header)) → length starts ≤ k → k ≤ length starts
      → IsSoFar (take k starts) text count next → IsBody w lines starts text count next
  body-whole starts k text count next upto within s =
      let same : k ≡ length starts = omega (arith, upto, within) in
      let all : take k starts ≡ starts = ap (λ n. take n starts) same ∙ take-length starts in
      bodies.body_all s.told (subst (λ (l : List S). AreToldAll w l s.told) all s.all) s.text_is s.count_is s.next_is

  -- ---- the rows of one start

  -- they are few enough
  pub whole-few : (start : S) (rows : List (Row W)) (count : ℕ) → w.max ≤ 20000 → count ≤ w.max → IsWholeOver (w.word start) w.cuts (w.boxes start) (w.max - count) rows → count + length rows ≤ 20000
  whole-few start rows count most fits k = let f = k.few in omega (arith, f, most, fits)

  pub part-few : (start : S) (rows : List (Row W)) (next : Header) (count : ℕ) → w.max ≤ 20000 → count ≤ w.max → IsPartOver (w.word start) w.cuts (w.boxes start) (w.max - count) rows next
      → count + length rows ≤ 20000
  part-few start rows next count most fits k = let f = k.count in omega (arith, f, most, fits)

  -- a start that is the last one asked is among the starts
  pub last_among : (starts : List S) (told : List (StartRows S W)) (last : StartRows S W) (next : Header) → AreToldInPart w starts told last next → Contains starts last.start
  last_among starts told last next are =
      subst (λ (l : List S). Contains l last.start) are.starts_are
      (Contains-append_right (map (λ (t : StartRows S W). t.start) told) (last.start ∷ are.rest) last.start (0, omega arith, refl))

  -- so what holds of all starts holds of the one whose rows leave a header out
  pub next_start : (P : S → Type 0) (starts : List S) (text : List ℕ) (count : ℕ) (next : Option (S × Header)) → All P starts → IsBody w lines starts text count next → IfSome next (λ x. P x.0)
  next_start P starts text count next all (bodies.body_all told are text_is count_is next_is) = subst (λ (o : Option (S × Header)). IfSome o (λ x. P x.0)) (sym next_is) tt
  next_start P starts text count next all (bodies.body_part told last h are text_is next_is) =
      subst (λ (o : Option (S × Header)). IfSome o (λ x. P x.0)) (sym next_is) (All-contains P starts last.start all (last_among starts told last h are))

-- ---- the answer

-- all rows, by whether there is one
by_count : {S W : Type 0} (rows nothing : Status) (whole : List (StartRows S W) → List ℕ) (part : List (StartRows S W) → StartRows S W → Header → List ℕ) (w : Wanted S W) (starts : List S) (told : List (StartRows S W)) (status : Status) (text : List ℕ)
    (b : Bool) → (row_count told == 0) ≡ b → AreToldAll w starts told → status ≡ cond b nothing rows → text ≡ whole told → IsTold rows nothing whole part w starts status text
by_count rows nothing whole part w starts told status text true is are status_is text_is = answered.none told are (eqb-true (row_count told) 0 is) status_is text_is
by_count rows nothing whole part w starts told status text false is are status_is text_is = answered.some told are (grind (arith, nat_tests)) status_is text_is

pub told_whole : {S W : Type 0} (rows nothing : Status) (whole : List (StartRows S W) → List ℕ) (part : List (StartRows S W) → StartRows S W → Header → List ℕ) (w : Wanted S W) (starts : List S) (told : List (StartRows S W)) (status : Status) (text : List ℕ)
    → AreToldAll w starts told → status ≡ status_by rows nothing (row_count told) → text ≡ whole told → IsTold rows nothing whole part w starts status text
told_whole rows nothing whole part w starts told status text are status_is text_is = by_count rows nothing whole part w starts told status text (row_count told == 0) refl are status_is text_is
