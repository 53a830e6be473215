-- What a list without an item that fails a test says of the test.
use Rattle.std.proofs.Common.{◌≡◌, ◌∙◌, ◌&&◌, ◌||◌, ◌∷◌, [], Bool, List, Option, Some, ap, cond, false, not, refl, sym, suc, true, zero, ℕ}
use Rattle.std.specs.List.{find, list_any, remove, slice_get}
use Rattle.std.specs.Prelude.{nat_lt}
use Rattle.vpc_base.proofs.Lemmas.{none-some, same_Some}
use Rattle.vpc_laws.specs.Types.{AclRow, Dir, Header}
use Rattle.vpc_model.specs.Acls.{acl_matches, acl_verdict, verdict_of_row}
use Rattle.vpc_model.specs.Choice.{is_unbeaten}

pub any-removed : {X : Type 0} (test : X → Bool) (xs : List X) (k : ℕ) (x : X) → slice_get xs k ≡ Some x → test x ≡ false
    → list_any test (remove xs k) ≡ list_any test xs
any-removed test [] k x at fails = absurd (none-some x at)
any-removed test (y ∷ ys) zero x at fails = sym (ap (λ (b : Bool). b || list_any test ys) (ap test (same_Some y x at) ∙ fails))
any-removed test (y ∷ ys) (suc k) x at fails = ap (λ (b : Bool). test y || b) (any-removed test ys k x at fails)

find-removed : {X : Type 0} (test : X → Bool) (xs : List X) (k : ℕ) (x : X) → slice_get xs k ≡ Some x → test x ≡ false
    → find test (remove xs k) ≡ find test xs
find-removed test [] k x at fails = absurd (none-some x at)
find-removed test (y ∷ ys) zero x at fails = sym (ap (λ (b : Bool). cond b (Some y) (find test ys)) (ap test (same_Some y x at) ∙ fails))
find-removed {X} test (y ∷ ys) (suc k) x at fails = ap (λ (o : Option X). cond (test y) (Some y) o) (find-removed test ys k x at fails)

find-agree : {X : Type 0} (one other : X → Bool) → ((x : X) → one x ≡ other x) → (xs : List X) → find one xs ≡ find other xs
find-agree one other agree [] = refl
find-agree {X} one other agree (x ∷ xs) =
    ap (λ (b : Bool). cond b (Some x) (find one xs)) (agree x) ∙ ap (λ (o : Option X). cond (other x) (Some x) o) (find-agree one other agree xs)

pub and-first : (a b : Bool) → a ≡ false → (a && b) ≡ false
and-first true b e = absurd (cc)
and-first false b e = refl

-- without a row that doesn't match a packet, an ACL judges it as before
pub verdict-removed : (rows : List AclRow) (k : ℕ) (row : AclRow) (dir : Dir) (h : Header) → slice_get rows k ≡ Some row → acl_matches dir h row ≡ false
    → acl_verdict (remove rows k) dir h ≡ acl_verdict rows dir h
verdict-removed rows k row dir h at fails =
    let candidate = acl_matches dir h in
    let beats : AclRow → AclRow → Bool = λ r s. nat_lt r.number s.number in
    ap verdict_of_row
    (find-agree (is_unbeaten candidate beats (remove rows k)) (is_unbeaten candidate beats rows)
    (λ x. ap (λ (b : Bool). candidate x && not b)
    (any-removed (λ y. candidate y && beats y x) rows k row at (and-first (candidate row) (beats row x) fails))) (remove rows k)
    ∙ find-removed (is_unbeaten candidate beats rows) rows k row at
    (and-first (candidate row) (not (list_any (λ y. candidate y && beats y row) rows)) fails))
