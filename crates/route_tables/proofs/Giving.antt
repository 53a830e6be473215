-- Loops over routes that leave out those that repeat earlier ones.
use Rattle.std.proofs.Common.{All, Bool, List, [], ap, append-nil, append_assoc, arith, drop, false, get_or, if◌then◌else◌, length, not, refl, subst, sym, take, true, ℕ, ◌++◌, ◌+◌, ◌<◌, ◌∙◌, ◌∷◌, ◌≡◌, ◌≤◌}
use Rattle.vpc_base.proofs.Lemmas.{All-contains, drop_all, list_any-member, take_more}
use Rattle.std.proofs.lemmas.List.{length-take-le}
use Rattle.vpc_base.proofs.Steps.{drop-next}
use Rattle.prefix_text.specs.Block.{IsBlock}
use Rattle.vpc_laws.specs.Types.{Description, Reach, Route}
use Rattle.vpc_model.specs.Terms.{blocks_of_reach}
use Rattle.block_pieces.specs.declared.rows.BlockRow.{BlockRow}
use Rattle.route_tables.specs.Repeats.{ListUse, given_once, is_known, is_repeat, is_same, use_of, with_use}
use Rattle.route_tables.specs.Rows.{AreBlocks}
use Rattle.route_tables.proofs.Seeing.{HasSeen, alike-uses, seen-again, seen-new, seen-nothing}

-- what a loop over routes has given so far, and what it has seen
pub record HasGiven (give : ℕ → Route → List BlockRow) (routes : List Route) (i : ℕ) (rows : List BlockRow) (seen : List ListUse) : Type 0 where
  pub so_far : rows ++ given_once give (take i routes) (drop i routes) ≡ given_once give [] routes
  pub uses : HasSeen seen (take i routes)

pub given-nothing : (give : ℕ → Route → List BlockRow) (routes : List Route) → HasGiven give routes 0 [] []
given-nothing give routes = record { so_far = refl; uses = seen-nothing }

take-next : (routes : List Route) (i : ℕ) (r : Route) → i < length routes → r ≡ get_or routes i r → take i routes ++ r ∷ [] ≡ take (i + 1) routes
take-next routes i r within is = ap (λ x. take i routes ++ x ∷ []) is ∙ sym (take_more routes i r within)

-- what is left to give, from one route on
given-step : (give : ℕ → Route → List BlockRow) (routes : List Route) (i : ℕ) (r : Route) (repeat : Bool) → i < length routes → r ≡ get_or routes i r → is_repeat (take i routes) r ≡ repeat
    → given_once give (take i routes) (drop i routes) ≡ (if repeat then [] else give i r) ++ given_once give (take (i + 1) routes) (drop (i + 1) routes)
given-step give routes i r repeat within is known =
    let own = λ (t : Bool) (k : ℕ). if t then [] else give k r in
    let rest = drop (i + 1) routes in
    ap (given_once give (take i routes)) (drop-next routes i r within is)
    ∙ (ap (λ t. own t (length (take i routes)) ++ given_once give (take i routes ++ r ∷ []) rest) known
    ∙ (ap (λ k. own repeat k ++ given_once give (take i routes ++ r ∷ []) rest) (length-take-le i routes (omega arith))
    ∙ ap (λ l. own repeat i ++ given_once give l rest) (take-next routes i r within is)))

unknown-of : (is_new known : Bool) → is_new ≡ true → is_new ≡ not known → known ≡ false
unknown-of is_new true now is = sym now ∙ is
unknown-of is_new false now is = refl

known-of : (is_new known : Bool) → is_new ≡ false → is_new ≡ not known → known ≡ true
known-of is_new true now is = refl
known-of is_new false now is = sym now ∙ is

-- one more route, which is new
pub given-new : (give : ℕ → Route → List BlockRow) (routes : List Route) (i : ℕ) (r : Route) (rows more : List BlockRow) (seen later : List ListUse) (is_new : Bool) → i < length routes → r ≡ get_or routes i r → HasGiven give routes i rows seen
    → is_new ≡ true → is_new ≡ not (is_known seen (use_of r)) → later ≡ (if is_new then with_use seen (use_of r) else seen) → more ≡ rows ++ give i r
    → HasGiven give routes (i + 1) more later
given-new give routes i r rows more seen later is_new within is has now fresh added given =
    let unknown = unknown-of is_new (is_known seen (use_of r)) now fresh in
    let step = given-step give routes i r false within is (sym (has.uses.known (use_of r)) ∙ unknown) in
    let rest = given_once give (take (i + 1) routes) (drop (i + 1) routes) in
    let with_its : later ≡ with_use seen (use_of r) = added ∙ ap (λ t. if t then with_use seen (use_of r) else seen) now in
    record {
      so_far = ap (λ l. l ++ rest) given ∙ (append_assoc rows (give i r) rest ∙ (ap (λ l. rows ++ l) (sym step) ∙ has.so_far));
      uses = subst (λ l. HasSeen l (take (i + 1) routes)) (sym with_its) (subst (HasSeen (with_use seen (use_of r))) (take-next routes i r within is) (seen-new seen (take i routes) r has.uses));
    }

-- one more route, which repeats an earlier one
pub given-repeat : (give : ℕ → Route → List BlockRow) (routes : List Route) (i : ℕ) (r : Route) (rows : List BlockRow) (seen later : List ListUse) (is_new : Bool) → i < length routes → r ≡ get_or routes i r → HasGiven give routes i rows seen
    → is_new ≡ false → is_new ≡ not (is_known seen (use_of r)) → later ≡ (if is_new then with_use seen (use_of r) else seen)
    → HasGiven give routes (i + 1) rows later
given-repeat give routes i r rows seen later is_new within is has now fresh added =
    let known = known-of is_new (is_known seen (use_of r)) now fresh in
    let step = given-step give routes i r true within is (sym (has.uses.known (use_of r)) ∙ known) in
    let as_before : later ≡ seen = added ∙ ap (λ t. if t then with_use seen (use_of r) else seen) now in
    record {
      so_far = ap (λ l. rows ++ l) (sym step) ∙ has.so_far;
      uses = subst (λ l. HasSeen l (take (i + 1) routes)) (sym as_before) (subst (HasSeen seen) (take-next routes i r within is) (seen-again seen (take i routes) r has.uses known));
    }

pub given-all : (give : ℕ → Route → List BlockRow) (routes : List Route) (i : ℕ) (rows : List BlockRow) (seen : List ListUse) → length routes ≤ i → HasGiven give routes i rows seen → rows ≡ given_once give [] routes
given-all give routes i rows seen past has = sym (append-nil rows) ∙ (ap (λ l. rows ++ given_once give (take i routes) l) (sym (drop_all i routes past)) ∙ has.so_far)

-- the blocks of a route that repeats an earlier one are blocks as those of the earlier one
pub repeat-blocks : (d : Description) (give : ℕ → Route → List BlockRow) (routes : List Route) (i : ℕ) (r : Route) (rows : List BlockRow) (seen : List ListUse) (is_new : Bool) → HasGiven give routes i rows seen → AreBlocks d (take i routes)
    → is_new ≡ false → is_new ≡ not (is_known seen (use_of r)) → All IsBlock (blocks_of_reach d r.reach)
repeat-blocks d give routes i r rows seen is_new has blocks now fresh =
    let known = known-of is_new (is_known seen (use_of r)) now fresh in
    let found = list_any-member (λ (s : Route). is_same (use_of r) (use_of s)) (take i routes) (sym (has.uses.known (use_of r)) ∙ known) in
    let alike = alike-uses r found.0 found.2 in
    subst (λ (x : Reach). All IsBlock (blocks_of_reach d x)) (sym alike.reach) (All-contains (λ (s : Route). All IsBlock (blocks_of_reach d s.reach)) (take i routes) found.0 blocks found.1)
