-- Rules that are asked of images run by run.
use Rattle.std.proofs.Common.{All, Bool, List, [], ap, arith, drop, false, get_or, length, nat_le, refl, subst, suc, sym, take, true, zero, ℕ, ⊎_elim, ◌&&◌, ◌*◌, ◌+◌, ◌-◌, ◌<◌, ◌||◌, ◌∙◌, ◌∷◌, ◌≡◌, ◌≤◌}
use Rattle.vpc_base.proofs.Lemmas.{All-contains, All-drop, All-head, All-tail, All-take, AllWithin-more, at_read, cases_lt, drop-drop, drop_all, get_or-drop, get_or_default, length-drop, list_any-append, lt-leb, nat_tests, or-false, take-append-drop, take_rest}
use Rattle.std.specs.List.{AllWithin, list_any}
use Rattle.std.specs.List.Sorted.{IsNonDecreasingBy}
use Rattle.image_tests.specs.Types.{Image, Part, Run}
use Rattle.vpc_base.specs.Cuts.{CutLists}
use Rattle.vpc_laws.specs.Types.{Box5, Dir, Header}
use Rattle.header_boxes.proofs.Lemmas.{holds_low, valid_if_within, within_holds}
use Rattle.header_boxes.specs.Boxes.{IsWithin, holds, low_of}
use Rattle.box_images.proofs.Reducing.{reduced_all, reduced_by, reduced_nothing, reduced_same, reduced_to, walk_within}
use Rattle.box_images.specs.Terms.{Answers, IsImageOfWalk, IsValidImage, KeepsKind, greatest_of, header_at}
use Rattle.box_images.specs.declared.fields.Side.TheVariants.{Q}
use Rattle.cut_laws.specs.Dividing.{Divide}
use Rattle.image_tests.proofs.Lemmas.{answers_more, answers_same, header_of_rest, low-is-least, number-greatest, range_of_rule}
use Rattle.image_tests.specs.Tests.{cuts_of_range}
use Rattle.security_groups.specs.Terms.{AllowsNone, AreBegun, AreEnded, AreLasts, BeginAfter, DivideRule, DivideRules, EndBy, IsLeftWith, MemberSets, Rule, allows, any_allows, names, run_of}
use Rattle.vpc_model.specs.Filter.{far_address, matches_proto}
use Rattle.security_groups.proofs.Runs.{starts-later}

-- ---- one of some rules

any-parts : (p : Rule → Bool) (rules : List Rule) (n : ℕ) → list_any p rules ≡ (list_any p (take n rules) || list_any p (drop n rules))
any-parts p rules n = ap (list_any p) (sym (take-append-drop n rules)) ∙ list_any-append p (take n rules) (drop n rules)

pub none-of : (p : Rule → Bool) (rules : List Rule) → All (λ r. p r ≡ false) rules → list_any p rules ≡ false
none-of p [] all = refl
none-of p (r ∷ rs) all =
    let fails = All-head (λ x. p x ≡ false) r rs all in
    rw fails (none-of p rs (All-tail (λ x. p x ≡ false) r rs all))

pub first-decide : (p : Rule → Bool) (rules : List Rule) (n : ℕ) → list_any p (drop n rules) ≡ false → list_any p rules ≡ list_any p (take n rules)
first-decide p rules n none = any-parts p rules n ∙ ap (λ b. list_any p (take n rules) || b) none ∙ or-false (list_any p (take n rules))

-- a run, and the runs after it
pub run-parts : (p : Rule → Bool) (rules : List Rule) (k : ℕ) → list_any p (drop (16 * k) rules) ≡ (list_any p (run_of k rules) || list_any p (drop (16 * (k + 1)) rules))
run-parts p rules k =
    let next : 16 * k + 16 ≡ 16 * (k + 1) = omega arith in
    any-parts p (drop (16 * k) rules) 16
    ∙ ap (λ rs. list_any p (run_of k rules) || list_any p rs) (drop-drop 16 (16 * k) rules ∙ ap (λ n. drop n rules) next)

-- ---- rules that can't allow a header

pub ended-before : (lists : List (List Run)) (members : MemberSets) (dir : Dir) (h : Header) (r : Rule) → r.q_to < h.q → allows lists members dir h r ≡ false
ended-before lists members dir h r less =
    let fails : nat_le h.q r.q_to ≡ false = lt-leb h.q r.q_to less in
    rw fails (nowhere (nat_le r.q_from h.q) (names lists members (far_address dir h) r) (matches_proto r.proto h.proto))
  where
    nowhere : (a b c : Bool) → (c && ((a && false) && b)) ≡ false
    nowhere true b true = refl
    nowhere true b false = refl
    nowhere false b true = refl
    nowhere false b false = refl

pub none-ended : (lists : List (List Run)) (members : MemberSets) (dir : Dir) (h : Header) (last : ℕ) (rules : List Rule) → EndBy last rules → last < h.q → any_allows lists members dir rules h ≡ false
none-ended lists members dir h last rules ends before =
    none-of (allows lists members dir h) rules
    (λ k d within. let end = ends k d within in ended-before lists members dir h (get_or rules k d) (omega arith))

-- ---- before the next rule that could allow a header

-- a rule after the first ones is one of all
pub later-rule : (rules : List Rule) (begun k : ℕ) (r : Rule) → r ≡ get_or (take (length rules - begun) (drop begun rules)) k r → r ≡ get_or rules (begun + k) r
later-rule rules begun k r is = is ∙ ap (λ rs. get_or rs k r) (take_rest rules begun) ∙ get_or-drop begun rules k r

-- one more allows none of the headers
pub refused-more : (lists : List (List Run)) (members : MemberSets) (dir : Dir) (i : Image) (rules : List Rule) (begun k : ℕ) (r : Rule)
    → k < length (take (length rules - begun) (drop begun rules)) → r ≡ get_or (take (length rules - begun) (drop begun rules)) k r → AllowsNone lists members dir i r
    → AllWithin (AllowsNone lists members dir i) rules begun (begun + k) → AllWithin (AllowsNone lists members dir i) rules begun (begun + (k + 1))
refused-more lists members dir i rules begun k r within is none before =
    let left = ap length (take_rest rules begun) in
    let long = length-drop begun rules in
    let next : begun + k + 1 ≡ begun + (k + 1) = omega arith in
    subst (AllWithin (AllowsNone lists members dir i) rules begun) next
    (AllWithin-more (AllowsNone lists members dir i) rules begun (begun + k) before
    (at_read rules (AllowsNone lists members dir i) (begun + k) r (omega arith) (later-rule rules begun k r is) none))

-- those that allow none of the headers
refused : (lists : List (List Run)) (members : MemberSets) (dir : Dir) (i : Image) (rules : List Rule) (begun k n : ℕ) (d : Rule) (h : Header)
    → AllWithin (AllowsNone lists members dir i) rules begun (begun + k) → holds h i.part ≡ true → n < k → allows lists members dir (header_at i h) (get_or (drop begun rules) n d) ≡ false
refused lists members dir i rules begun k n d h before t less =
    ap (allows lists members dir (header_at i h)) (get_or-drop begun rules n d) ∙ before (begun + n) d (omega arith) (omega arith) h t

pub left-all : (lists : List (List Run)) (members : MemberSets) (dir : Dir) (rules : List Rule) (begun k : ℕ) (i : Image) → IsValidImage i
    → length (take (length rules - begun) (drop begun rules)) ≤ k → AllWithin (AllowsNone lists members dir i) rules begun (begun + k)
    → IsLeftWith lists members dir rules (take begun rules) i i.part
left-all lists members dir rules begun k i valid ended before =
    let left = ap length (take_rest rules begun) in
    let whole : Header → Bool = λ h. any_allows lists members dir rules (header_at i h) in
    reduced_same (DivideRules lists members rules) whole whole (λ h. any_allows lists members dir (take begun rules) (header_at i h)) i.part i.part
    (λ h t. first-decide (allows lists members dir (header_at i h)) rules begun
    (none-of (allows lists members dir (header_at i h)) (drop begun rules) (λ n d inside. refused lists members dir i rules begun k n d h before t (omega arith))))
    (reduced_nothing (DivideRules lists members rules) whole i.part valid.part)

pub left-before : (lists : List (List Run)) (members : MemberSets) (dir : Dir) (rules : List Rule) (begun k : ℕ) (i : Image) (next : Rule) (x : Part Bool)
    → k < length (take (length rules - begun) (drop begun rules)) → next ≡ get_or (take (length rules - begun) (drop begun rules)) k next
    → IsNonDecreasingBy (λ r. r.q_from) rules → BeginAfter rules begun (header_at i (low_of i.part)).q → AllWithin (AllowsNone lists members dir i) rules begun (begun + k)
    → ((to : ℕ) → Answers (Divide (cuts_of_range next.q_from to)) (λ h. nat_le next.q_from (header_at i h).q) i.part x)
    → IsLeftWith lists members dir rules (take begun rules) i x.body
left-before lists members dir rules begun k i next x below is ascend later before answer = record {
  same = λ h t. first-decide (allows lists members dir (header_at i h)) rules begun (none-of (allows lists members dir (header_at i h)) (drop begun rules) (after h t));
  inside = (answer 0).body;
  aligned = λ cuts all. (answer next.q_to).aligned cuts
      (range_cuts cuts (All-contains (λ r. DivideRule lists members r cuts) rules next all (begun + k, within, sym at)));
}
  where
    at : next ≡ get_or rules (begun + k) next
    at = later-rule rules begun k next is

    within : begun + k < length rules
    within = let left = ap length (take_rest rules begun) in let long = length-drop begun rules in omega arith

    range_cuts : (cuts : CutLists) → DivideRule lists members next cuts → Divide (cuts_of_range next.q_from next.q_to) cuts
    range_cuts cuts d = range_of_rule next.proto next.q_from next.q_to cuts d.rule

    low : Header
    low = low_of i.part

    low_in_body : holds low x.body ≡ true
    low_in_body = subst (λ (h : Header). holds h x.body ≡ true) (answer 0).body.low (holds_low x.body (valid_if_within x.body i.part (answer 0).body.within))

    next_is_later : (header_at i low).q < next.q_from
    next_is_later =
        let long = length-drop begun rules in
        let inside = within in
        subst (λ (r : Rule). (header_at i low).q < r.q_from) (get_or-drop begun rules k next ∙ sym at) (later k next (omega arith))

    ends_before : (h : Header) → holds h x.body ≡ true → (header_at i h).q < next.q_from
    ends_before h t = less (header_at i h).q (sym ((answer 0).told h t) ∙ (answer 0).told low low_in_body ∙ lt-leb next.q_from (header_at i low).q next_is_later)
      where
        less : (q : ℕ) → nat_le next.q_from q ≡ false → q < next.q_from
        less q e = grind (arith, nat_tests)

    from_next : (h : Header) → holds h x.body ≡ true → (n : ℕ) (d : Rule) → n < length (drop begun rules) → k ≤ n → allows lists members dir (header_at i h) (get_or (drop begun rules) n d) ≡ false
    from_next h t n d inside more =
        let long = length-drop begun rules in
        let rises = ascend (begun + k) (begun + n) d (omega arith) (omega arith) in
        let first : (get_or rules (begun + k) d).q_from ≡ next.q_from = ap (λ (r : Rule). r.q_from) (get_or_default rules (begun + k) d next within ∙ sym at) in
        let same = ap (λ (r : Rule). r.q_from) (get_or-drop begun rules n d) in
        let here = ends_before h t in
        starts-later lists members dir (header_at i h) (get_or (drop begun rules) n d) (omega arith)

    after : (h : Header) → holds h x.body ≡ true → All (λ r. allows lists members dir (header_at i h) r ≡ false) (drop begun rules)
    after h t n d inside =
        ⊎_elim
        (λ less. refused lists members dir i rules begun k n d h before (within_holds x.body i.part h (answer 0).body.within t) less)
        (λ more. from_next h t n d inside more)
        (cases_lt n k)

-- a rule that begins after the ports of all headers leaves them all
pub left-beyond : (lists : List (List Run)) (members : MemberSets) (dir : Dir) (rules : List Rule) (begun k : ℕ) (i : Image) (next : Rule) (last : ℕ)
    → k < length (take (length rules - begun) (drop begun rules)) → next ≡ get_or (take (length rules - begun) (drop begun rules)) k next
    → IsNonDecreasingBy (λ r. r.q_from) rules → BeginAfter rules begun (header_at i (low_of i.part)).q → AllWithin (AllowsNone lists members dir i) rules begun (begun + k)
    → IsValidImage i → last ≡ greatest_of i.q i.part → last < next.q_from
    → IsLeftWith lists members dir rules (take begun rules) i i.part
left-beyond lists members dir rules begun k i next last below is ascend later before valid most less =
    left-before lists members dir rules begun k i next (record { body = i.part; told = false }) below is ascend later before
    (λ to.
    let from : Header → Bool = λ h. nat_le next.q_from (header_at i h).q in
    reduced_all (Divide (cuts_of_range next.q_from to)) from from i.part i.part false
    (λ h t. let greatest = number-greatest i Q h t in lt-leb next.q_from (header_at i h).q (omega arith))
    (reduced_nothing (Divide (cuts_of_range next.q_from to)) from i.part valid.part))

-- ---- what is left of an image after some runs

pub record IsInRuns (lists : List (List Run)) (members : MemberSets) (dir : Dir) (rules : List Rule) (i : Image) (k : ℕ) (rest : Image) : Type 0 where
  pub image : rest ≡ record i { part = rest.part }
  pub valid : IsValidImage rest
  pub walk : IsImageOfWalk rest
  pub left : IsLeftWith lists members dir rules (drop (16 * k) rules) i rest.part

pub runs_first : (lists : List (List Run)) (members : MemberSets) (dir : Dir) (rules : List Rule) (i : Image) → IsValidImage i → IsImageOfWalk i → IsInRuns lists members dir rules i 0 i
runs_first lists members dir rules i v w =
    record { image = refl; valid = v; walk = w; left = reduced_nothing (DivideRules lists members rules) (λ h. any_allows lists members dir rules (header_at i h)) i.part v.part }

-- a run is asked of what is left
run_asked : (lists : List (List Run)) (members : MemberSets) (dir : Dir) (rules : List Rule) (i rest : Image) (k : ℕ) (x : Part Bool) → rest ≡ record i { part = rest.part }
    → Answers (DivideRules lists members (run_of k rules)) (λ h. any_allows lists members dir (run_of k rules) (header_at rest h)) rest.part x
    → Answers (DivideRules lists members rules) (λ h. any_allows lists members dir (run_of k rules) (header_at i h)) rest.part x
run_asked lists members dir rules i rest k x e a =
    answers_more (DivideRules lists members (run_of k rules)) (DivideRules lists members rules) (λ h. any_allows lists members dir (run_of k rules) (header_at i h)) rest.part x
    (λ cuts all. All-take (λ r. DivideRule lists members r cuts) 16 (drop (16 * k) rules) (All-drop (λ r. DivideRule lists members r cuts) (16 * k) rules all))
    (answers_same (DivideRules lists members (run_of k rules)) (λ h. any_allows lists members dir (run_of k rules) (header_at rest h))
    (λ h. any_allows lists members dir (run_of k rules) (header_at i h)) rest.part x
    (λ h. ap (any_allows lists members dir (run_of k rules)) (header_of_rest i rest h e)) a)

pub runs_next : (lists : List (List Run)) (members : MemberSets) (dir : Dir) (rules : List Rule) (i rest next : Image) (k : ℕ) (x : Part Bool)
    → x.told ≡ false → next ≡ record rest { part = x.body } → IsValidImage next → ((addresses : List ℕ) → KeepsKind addresses rest next)
    → IsInRuns lists members dir rules i k rest
    → Answers (DivideRules lists members (run_of k rules)) (λ h. any_allows lists members dir (run_of k rules) (header_at rest h)) rest.part x
    → IsInRuns lists members dir rules i (k + 1) next
runs_next lists members dir rules i rest next k x fails image valid keeps r a = record {
  image = subst (λ (j : Image). j ≡ record i { part = j.part }) (sym image) (ap (λ (j : Image). record j { part = x.body }) r.image);
  valid = valid;
  walk = walk_within rest next r.walk keeps;
  left = subst (λ (j : Image). IsLeftWith lists members dir rules (drop (16 * (k + 1)) rules) i j.part) (sym image)
      (reduced_by (DivideRules lists members rules) (λ h. any_allows lists members dir rules (header_at i h))
      (λ h. any_allows lists members dir (drop (16 * k) rules) (header_at i h)) (λ h. any_allows lists members dir (drop (16 * (k + 1)) rules) (header_at i h))
      i.part rest.part (λ h. any_allows lists members dir (run_of k rules) (header_at i h)) x false fails
      (λ h e. run-parts (allows lists members dir (header_at i h)) rules k ∙ ap (λ b. b || any_allows lists members dir (drop (16 * (k + 1)) rules) (header_at i h)) e)
      r.left (run_asked lists members dir rules i rest k x r.image a));
}

-- a run that ends before the ports of all headers is left behind
pub runs_passed : (lists : List (List Run)) (members : MemberSets) (dir : Dir) (rules : List Rule) (i rest : Image) (k q last : ℕ)
    → ((h : Header) → holds h i.part ≡ true → q ≤ (header_at i h).q) → last < q → EndBy last (run_of k rules)
    → IsInRuns lists members dir rules i k rest → IsInRuns lists members dir rules i (k + 1) rest
runs_passed lists members dir rules i rest k q last above before ends r = record {
  image = r.image;
  valid = r.valid;
  walk = r.walk;
  left = reduced_same (DivideRules lists members rules) (λ h. any_allows lists members dir rules (header_at i h))
      (λ h. any_allows lists members dir (drop (16 * k) rules) (header_at i h)) (λ h. any_allows lists members dir (drop (16 * (k + 1)) rules) (header_at i h)) i.part rest.part
      (λ h t.
      let port = above h (within_holds rest.part i.part h r.left.inside.within t) in
      run-parts (allows lists members dir (header_at i h)) rules k
      ∙ ap (λ b. b || any_allows lists members dir (drop (16 * (k + 1)) rules) (header_at i h)) (none-ended lists members dir (header_at i h) last (run_of k rules) ends (omega arith)))
      r.left;
}

-- the first runs of a number, which end before the ports of all headers, are left behind
pub runs_ended : (lists : List (List Run)) (members : MemberSets) (dir : Dir) (rules : List Rule) (lasts : List ℕ) (i : Image) (q n : ℕ) → IsValidImage i → IsImageOfWalk i
    → ((h : Header) → holds h i.part ≡ true → q ≤ (header_at i h).q) → AreLasts rules lasts → AreEnded lasts q n → (m : ℕ) → m ≤ n → IsInRuns lists members dir rules i m i
runs_ended lists members dir rules lasts i q n v w above are ended zero below = runs_first lists members dir rules i v w
runs_ended lists members dir rules lasts i q n v w above are ended (suc m) below =
    let few = ended.few in
    let next : m + 1 ≡ suc m = omega arith in
    subst (λ k. IsInRuns lists members dir rules i k i) next
    (runs_passed lists members dir rules i i m q (get_or lasts m 0) above (ended.before m (omega arith)) (are.ends m (omega arith))
    (runs_ended lists members dir rules lasts i q n v w above are ended m (omega arith)))

pub runs_allow : (lists : List (List Run)) (members : MemberSets) (dir : Dir) (rules : List Rule) (i rest : Image) (k : ℕ) (x : Part Bool)
    → x.told ≡ true → IsInRuns lists members dir rules i k rest
    → Answers (DivideRules lists members (run_of k rules)) (λ h. any_allows lists members dir (run_of k rules) (header_at rest h)) rest.part x
    → Answers (DivideRules lists members rules) (λ h. any_allows lists members dir rules (header_at i h)) i.part (record { body = x.body; told = true })
runs_allow lists members dir rules i rest k x passes r a =
    let whole : Header → Bool = λ h. any_allows lists members dir rules (header_at i h) in
    let all : Header → Bool = λ h. true in
    reduced_all (DivideRules lists members rules) whole all i.part x.body true (λ h t. refl)
    (reduced_by (DivideRules lists members rules) whole (λ h. any_allows lists members dir (drop (16 * k) rules) (header_at i h)) all i.part rest.part
    (λ h. any_allows lists members dir (run_of k rules) (header_at i h)) x true passes
    (λ h e. run-parts (allows lists members dir (header_at i h)) rules k ∙ ap (λ b. b || any_allows lists members dir (drop (16 * (k + 1)) rules) (header_at i h)) e)
    r.left (run_asked lists members dir rules i rest k x r.image a))

pub runs_none : (lists : List (List Run)) (members : MemberSets) (dir : Dir) (rules : List Rule) (i rest : Image) (k : ℕ) → length rules ≤ 16 * k
    → IsInRuns lists members dir rules i k rest
    → Answers (DivideRules lists members rules) (λ h. any_allows lists members dir rules (header_at i h)) i.part (record { body = rest.part; told = false })
runs_none lists members dir rules i rest k ended r =
    reduced_all (DivideRules lists members rules) (λ h. any_allows lists members dir rules (header_at i h)) (λ h. any_allows lists members dir (drop (16 * k) rules) (header_at i h))
    i.part rest.part false (λ h t. ap (list_any (allows lists members dir (header_at i h))) (drop_all (16 * k) rules ended)) r.left

-- ---- the rules of a table

pub begin-after : (table asked rules : List Rule) (q low : ℕ) → asked ≡ table → q ≡ low → AreBegun table q rules → BeginAfter asked (length rules) low
begin-after table asked rules q low same is are = subst (BeginAfter asked (length rules)) is (subst (λ (rs : List Rule). BeginAfter rs (length rules) q) (sym same) are.later)

pub few-begun : (table asked rules : List Rule) (q : ℕ) → asked ≡ table → AreBegun table q rules → length rules ≤ length asked
few-begun table asked rules q same are = subst (λ (rs : List Rule). length rules ≤ length rs) (sym same) are.few

-- the rules that begin at or before a port, on the body where the others aren't had
pub any-allows : (lists : List (List Run)) (members : MemberSets) (dir : Dir) (table asked rules : List Rule) (q : ℕ) (i rest : Image) (body : Box5) (x : Part Bool)
    → asked ≡ table → AreBegun table q rules → IsLeftWith lists members dir asked (take (length rules) asked) i body → rest ≡ record i { part = body }
    → Answers (DivideRules lists members rules) (λ h. any_allows lists members dir rules (header_at rest h)) rest.part x
    → Answers (DivideRules lists members table) (λ h. any_allows lists members dir table (header_at i h)) i.part x
any-allows lists members dir table asked rules q i rest body x same are left image a =
    let first : List Rule = take (length rules) table in
    reduced_to (DivideRules lists members table) (λ h. any_allows lists members dir table (header_at i h)) (λ h. any_allows lists members dir first (header_at i h)) i.part body x
    (subst (λ (rs : List Rule). IsLeftWith lists members dir rs (take (length rules) rs) i body) same left)
    (answers_more (DivideRules lists members first) (DivideRules lists members table) (λ h. any_allows lists members dir first (header_at i h)) body x
    (λ cuts all. All-take (λ r. DivideRule lists members r cuts) (length rules) table all)
    (subst (λ (j : Image). Answers (DivideRules lists members first) (λ h. any_allows lists members dir first (header_at j h)) j.part x) image
    (subst (λ (rs : List Rule). Answers (DivideRules lists members rs) (λ h. any_allows lists members dir rs (header_at rest h)) rest.part x) are.first a)))

-- no port of what is left is below that of the low corner
pub ports-above : (i rest : Image) (body : Box5) (q : ℕ) → q ≡ (header_at i (low_of i.part)).q → IsWithin body i.part → rest ≡ record i { part = body }
    → (h : Header) → holds h rest.part ≡ true → q ≤ (header_at rest h).q
ports-above i rest body q is within image =
    subst (λ (j : Image). (h : Header) → holds h j.part ≡ true → q ≤ (header_at j h).q) (sym image)
    (λ h t. let le = low-is-least i.q i.part h (within_holds body i.part h within t) in omega arith)

-- nor of what is left of that

pub ports-above-rest : (i rest : Image) (q : ℕ) → ((h : Header) → holds h i.part ≡ true → q ≤ (header_at i h).q) → rest ≡ record i { part = rest.part } → IsWithin rest.part i.part
    → (h : Header) → holds h rest.part ≡ true → q ≤ (header_at rest h).q
ports-above-rest i rest q above image within h t =
    subst (λ (g : Header). q ≤ g.q) (sym (header_of_rest i rest h image)) (above h (within_holds rest.part i.part h within t))
