-- Rules that are asked run by run.
use Rattle.std.proofs.Common.{nat_lt, suc, zero, ◌≡◌, ◌∙◌, ◌&&◌, ◌*◌, ◌++◌, ◌+◌, ◌-◌, ◌<◌, ◌≤◌, ◌∷◌, ◌⊎◌, [], ℕ, Bool, List, None, ap, arith, drop, false, get_or, inl, inr, length, nat_le, refl, subst, sym, take, true}
use Rattle.std.specs.List.{All}
use Rattle.std.specs.List.Sorted.{IsNonDecreasingBy, IsPartitionPoint}
use Rattle.std.proofs.lemmas.Bool.{cases_lt, lt-leb}
use Rattle.std.proofs.lemmas.Bool.Decides.{nat_tests}
use Rattle.std.proofs.lemmas.List.{drop-take, get_or-drop, get_or-take, get_or_append_left, get_or_push, length-drop, length-take, length-take-le, length_push, take-append-drop, take-take, take_all, take_rest}
use Rattle.std.proofs.lemmas.List.Elements.{All-more, All-push}
use Rattle.std.proofs.lemmas.List.Sorted.{IsNonDecreasingBy-push}
use Rattle.address_sets.specs.declared.sets.Run.{Run}
use Rattle.vpc_base.proofs.Zips.{length-zip, zip_at, zip_next}
use Rattle.vpc_base.specs.declared.headers.Dir.{Dir}
use Rattle.vpc_base.specs.declared.headers.Header.{Header}
use Rattle.security_groups.specs.declared.rules.Rule.{Rule}
use Rattle.vpc_model.specs.Filter.{far_address, matches_proto}
use Rattle.security_groups.specs.Asking.{least, lesser}
use Rattle.security_groups.specs.Rules.{allows, names}
use Rattle.security_groups.specs.Tables.{AreBegun, AreEnded, AreLasts, AreTops, BeginAfter, EndBy, run_of}
use Rattle.security_groups.proofs.Least.{least-append, least-none, lesser-none}
use Rattle.security_groups.specs.Members.{MemberSets}

-- two parts, one after the other
pub take-add : {X : Type 0} (m n : ℕ) (xs : List X) → take (m + n) xs ≡ take m xs ++ take n (drop m xs)
take-add m n xs =
    sym (take-append-drop m (take (m + n) xs))
    ∙ ap (λ ys. ys ++ drop m (take (m + n) xs)) (take-take m (m + n) xs (omega arith))
    ∙ ap (λ ys. take m xs ++ ys) (drop-take m n xs)

-- one more run
pub least-run : (p : Rule → Bool) (rules : List Rule) (k : ℕ) → least p (take (16 * (k + 1)) rules) ≡ lesser (least p (take (16 * k) rules)) (least p (run_of k rules))
least-run p rules k =
    let more : 16 * (k + 1) ≡ 16 * k + 16 = omega arith in
    ap (λ n. least p (take n rules)) more ∙ ap (least p) (take-add (16 * k) 16 rules) ∙ least-append p (take (16 * k) rules) (run_of k rules)

-- ---- rules that can't allow the packet

-- they end before its port
pub least-ended : (lists : List (List Run)) (members : MemberSets) (dir : Dir) (h : Header) (last : ℕ) (rules : List Rule) → EndBy last rules → last < h.q → least (allows lists members dir h) rules ≡ None
least-ended lists members dir h last rules ends before =
    least-none (allows lists members dir h) rules
    (λ k d within.
    let end = ends k d within in
    let fails : nat_le h.q (get_or rules k d).q_to ≡ false = lt-leb h.q (get_or rules k d).q_to (omega arith) in
    rw fails (nowhere (nat_le (get_or rules k d).q_from h.q) (names lists members (far_address dir h) (get_or rules k d)) (matches_proto (get_or rules k d).proto h.proto)))
  where
    nowhere : (a b c : Bool) → (c && ((a && false) && b)) ≡ false
    nowhere true true true = refl
    nowhere true true false = refl
    nowhere true false true = refl
    nowhere true false false = refl
    nowhere false b true = refl
    nowhere false b false = refl

-- it begins after its port
pub starts-later : (lists : List (List Run)) (members : MemberSets) (dir : Dir) (h : Header) (r : Rule) → h.q < r.q_from → allows lists members dir h r ≡ false
starts-later lists members dir h r less = rw (lt-leb r.q_from h.q less) (nowhere (nat_le h.q r.q_to) (names lists members (far_address dir h) r) (matches_proto r.proto h.proto))
  where
    nowhere : (a b c : Bool) → (c && ((false && a) && b)) ≡ false
    nowhere a b true = refl
    nowhere a b false = refl

pub least-begun : (lists : List (List Run)) (members : MemberSets) (dir : Dir) (h : Header) (all rules : List Rule) → AreBegun all h.q rules
    → least (allows lists members dir h) rules ≡ least (allows lists members dir h) all
least-begun lists members dir h all rules are =
    let p = allows lists members dir h in
    let begun = length rules in
    let after : least p (drop begun all) ≡ None = least-none p (drop begun all) (λ k d within. starts-later lists members dir h (get_or (drop begun all) k d) (are.later k d within)) in
    ap (least p) are.first
    ∙ sym
    (ap (least p) (sym (take-append-drop begun all))
    ∙ least-append p (take begun all) (drop begun all)
    ∙ ap (lesser (least p (take begun all))) after
    ∙ lesser-none (least p (take begun all)))

-- the rules up to where a port parts them
pub are-begun : (table rules seen asked : List Rule) (q begun : ℕ) → seen ≡ rules → asked ≡ rules → rules ≡ table → begun ≤ length seen
    → IsPartitionPoint (λ r. nat_le r.q_from q ≡ true) (λ r. nat_le r.q_from q ≡ false) seen begun → AreBegun table q (take begun asked)
are-begun table rules seen asked q begun same alike is within point =
    subst (λ (rs : List Rule). AreBegun rs q (take begun asked)) (same ∙ is) (subst (λ (rs : List Rule). AreBegun seen q (take begun rs)) (same ∙ sym alike) parted)
  where
    less : (from : ℕ) → nat_le from q ≡ false → q < from
    less from e = grind (arith, nat_tests)

    after : BeginAfter seen begun q
    after k d below =
        let long = length-drop begun seen in
        let at = ap (λ (r : Rule). r.q_from) (get_or-drop begun seen k d) in
        let here = less (get_or seen (begun + k) d).q_from (point.1 (begun + k) d (omega arith) (omega arith)) in
        omega arith

    parted : AreBegun seen q (take begun seen)
    parted =
        let long = length-take-le begun seen within in
        record {
          few = omega arith;
          first = ap (λ (n : ℕ). take n seen) (sym long);
          later = subst (λ (n : ℕ). BeginAfter seen n q) (sym long) after;
        }

-- ---- the runs up to a rule

-- some runs of the first rules
pub lasts-take : (rules : List Rule) (lasts : List ℕ) (b c : ℕ) → AreLasts rules lasts → b ≤ length rules → b ≤ 16 * c → 16 * c < b + 16 → AreLasts (take b rules) (take c lasts)
lasts-take rules lasts b c are within cover tight =
    let few = are.cover in
    let runs : c ≤ length lasts = omega arith in
    let long = length-take-le b rules within in
    let many = length-take-le c lasts runs in
    record { cover = omega arith; tight = omega arith; ends = λ k below i d inside. by k i d (omega arith) runs inside }
  where
    by : (k i : ℕ) (d : Rule) → k < c → c ≤ length lasts → i < length (run_of k (take b rules)) → (get_or (run_of k (take b rules)) i d).q_to ≤ get_or (take c lasts) k 0
    by k i d below runs inside =
        let long = length-take-le b rules within in
        let cut = length-take 16 (drop (16 * k) (take b rules)) in
        let left = length-drop (16 * k) (take b rules) in
        let in_run : i < 16 = omega arith in
        let in_rules : 16 * k + i < b = omega arith in
        let cut_all = length-take 16 (drop (16 * k) rules) in
        let left_all = length-drop (16 * k) rules in
        let end = are.ends k (omega arith) i d (omega arith) in
        let last = get_or-take c lasts k 0 below in
        let at : get_or (run_of k (take b rules)) i d ≡ get_or (run_of k rules) i d =
        get_or-take 16 (drop (16 * k) (take b rules)) i d in_run
        ∙ get_or-drop (16 * k) (take b rules) i d
        ∙ get_or-take b rules (16 * k + i) d in_rules
        ∙ sym (get_or-drop (16 * k) rules i d)
        ∙ sym (get_or-take 16 (drop (16 * k) rules) i d in_run) in
        let ports = ap (λ (r : Rule). r.q_to) at in
        omega arith

-- ---- the greatest last ports

-- of one more rule
pub ends-next : (rules : List Rule) (i : ℕ) (r : Rule) (last next : ℕ) → i < length rules → r ≡ get_or rules i r → EndBy last (take i rules) → last ≤ next → r.q_to ≤ next → EndBy next (take (i + 1) rules)
ends-next rules i r last next within is ends more fits =
    All-more (λ (x : Rule). x.q_to ≤ next) rules i r within (λ k d lies. let end = ends k d lies in omega arith) (subst (λ (x : Rule). x.q_to ≤ next) is fits)

-- of all rules
pub ends-all : (rules : List Rule) (i last : ℕ) → length rules ≤ i → EndBy last (take i rules) → EndBy last rules
ends-all rules i last ended ends = subst (λ (rs : List Rule). EndBy last rs) (take_all i rules ended) ends

-- of one more run
pub runs-next : (rules : List Rule) (lasts now : List ℕ) (k last : ℕ) → length lasts ≡ k → ((j : ℕ) → j < k → EndBy (get_or lasts j 0) (run_of j rules)) → EndBy last (run_of k rules) → now ≡ lasts ++ last ∷ []
    → (length now ≡ k + 1) × ((j : ℕ) → j < k + 1 → EndBy (get_or now j 0) (run_of j rules))
runs-next rules lasts now k last long ends end added =
    let count : length now ≡ k + 1 = ap length added ∙ length_push lasts last ∙ ap (λ n. n + 1) long in
    (count, λ j below. by j below (cases_lt j k))
  where
    by : (j : ℕ) → j < k + 1 → (j < k) ⊎ (k ≤ j) → EndBy (get_or now j 0) (run_of j rules)
    by j below (inl before) =
        let at : get_or now j 0 ≡ get_or lasts j 0 = ap (λ ns. get_or ns j 0) added ∙ get_or_append_left lasts (last ∷ []) 0 j (omega arith) in
        subst (λ n. EndBy n (run_of j rules)) (sym at) (ends j before)
    by j below (inr after) =
        let same : k ≡ j = omega arith in
        let at : get_or now j 0 ≡ last = ap (λ ns. get_or ns j 0) added ∙ get_or_push lasts last 0 j (omega arith) in
        subst (λ n. EndBy n (run_of j rules)) (sym at) (subst (λ i. EndBy last (run_of i rules)) same end)

-- of all runs
pub runs-all : (rules : List Rule) (lasts : List ℕ) (k : ℕ) → length rules ≤ 16 * k → 16 * k < length rules + 16 → length lasts ≡ k → ((j : ℕ) → j < k → EndBy (get_or lasts j 0) (run_of j rules)) → AreLasts rules lasts
runs-all rules lasts k cover tight long ends = record { cover = omega arith; tight = omega arith; ends = λ j below. ends j (omega arith) }

-- the last run
pub run-rest : (rules : List Rule) (k : ℕ) → length (take (length rules - 16 * k) (drop (16 * k) rules)) < 16 → take (length rules - 16 * k) (drop (16 * k) rules) ≡ run_of k rules
run-rest rules k short =
    let rest = take_rest rules (16 * k) in
    let long = ap length rest in
    rest ∙ sym (take_all 16 (drop (16 * k) rules) (omega arith))

-- what a table hands to the search of its runs
pub lasts-begun : (rules seen : List Rule) (lasts ports : List ℕ) (b c : ℕ) → seen ≡ rules → ports ≡ lasts → AreLasts rules lasts → b ≤ length rules → b ≤ 16 * c → 16 * c < b + 16 → AreLasts (take b seen) (take c ports)
lasts-begun rules seen lasts ports b c same alike are within cover tight =
    subst (λ (ns : List ℕ). AreLasts (take b seen) (take c ns)) (sym alike) (subst (λ (rs : List Rule). AreLasts (take b rs) (take c lasts)) (sym same) (lasts-take rules lasts b c are within cover tight))

-- ---- the runs that end before a port

-- the tops of one more run
pub tops-next : (lasts tops now : List ℕ) (k last top next : ℕ) → k < length lasts → last ≡ get_or lasts k last → AreTops (take k lasts) tops → All (λ t. t ≤ top) tops
    → top ≤ next → last ≤ next → now ≡ tops ++ next ∷ []
    → AreTops (take (k + 1) lasts) now × All (λ t. t ≤ next) now
tops-next lasts tops now k last top next within is are most more fits added = (
  record {
    ascend = subst (IsNonDecreasingBy (λ t. t)) (sym added)
        (IsNonDecreasingBy-push (λ t. t) tops next are.ascend (λ d some. let le = most (length tops - 1) d (omega arith) in omega arith));
    above = zip_next (λ l t. l ≤ t) lasts tops now k last next within is are.above fits added;
  },
  subst (All (λ t. t ≤ next)) (sym added) (All-push (λ t. t ≤ next) tops next (λ j d below. let le = most j d below in omega arith) (omega arith)),
)

-- the tops of all runs
pub tops-all : (lasts tops : List ℕ) (k : ℕ) → length lasts ≤ k → AreTops (take k lasts) tops → AreTops lasts tops
tops-all lasts tops k ended are = subst (λ ls. AreTops ls tops) (take_all k lasts ended) are

-- the runs up to where a port parts the tops
pub ended-begun : (lasts tops seen ports : List ℕ) (c q n : ℕ) → AreTops lasts tops → seen ≡ take c tops → ports ≡ take c lasts → c ≤ length lasts → n ≤ length seen
    → IsPartitionPoint (λ t. nat_lt t q ≡ true) (λ t. nat_lt t q ≡ false) seen n → AreEnded ports q n
ended-begun lasts tops seen ports c q n are same alike runs within point =
    subst (λ (ns : List ℕ). AreEnded ns q n) (sym alike)
    (record {
      few = fits;
      before = λ k below. by k below (omega arith) (ap (λ ns. get_or ns k 0) same);
    })
  where
    fits : n ≤ length (take c lasts)
    fits =
        let long = length-zip (λ l t. l ≤ t) lasts tops are.above in
        let many = length-take-le c lasts runs in
        let top = length-take-le c tops (omega arith) in
        let seen_long = ap length same in
        omega arith

    less : (t : ℕ) → nat_lt t q ≡ true → t < q
    less t e = grind (arith, nat_tests)

    by : (k : ℕ) → k < n → k < length seen → get_or seen k 0 ≡ get_or (take c tops) k 0 → get_or (take c lasts) k 0 < q
    by k below lies top =
        let many = length-take-le c lasts runs in
        let inside = fits in
        let first = less (get_or seen k 0) (point.0 k 0 (omega arith) below) in
        let last = get_or-take c lasts k 0 (omega arith) in
        let same_top = get_or-take c tops k 0 (omega arith) in
        let le = zip_at (λ l t. l ≤ t) lasts tops k 0 0 are.above (omega arith) in
        omega arith

-- they hold no rule that allows the packet
pub least-before : (lists : List (List Run)) (members : MemberSets) (dir : Dir) (h : Header) (rules : List Rule) (lasts : List ℕ) (n : ℕ) → AreLasts rules lasts → AreEnded lasts h.q n
    → (m : ℕ) → m ≤ n → least (allows lists members dir h) (take (16 * m) rules) ≡ None
least-before lists members dir h rules lasts n are ended zero below = refl
least-before lists members dir h rules lasts n are ended (suc m) below =
    let p = allows lists members dir h in
    let few = ended.few in
    let next : m + 1 ≡ suc m = omega arith in
    let run = least-ended lists members dir h (get_or lasts m 0) (run_of m rules) (are.ends m (omega arith)) (ended.before m (omega arith)) in
    subst (λ k. least p (take (16 * k) rules) ≡ None) next
    (least-run p rules m ∙ ap (λ o. lesser o (least p (run_of m rules))) (least-before lists members dir h rules lasts n are ended m (omega arith)) ∙ ap (lesser None) run)
