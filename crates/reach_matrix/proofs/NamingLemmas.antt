-- The words of `ask` about a pair give the query about it.
use Rattle.std.proofs.Common.{Bool, Err, List, None, Ok, Option, Result, Some, ap, arith, bytes_eq, codes, false, if◌then◌else◌, is_some, nat_le, ok_or, refl, true, unwrap_or, ℕ, ◌&&◌, ◌<◌, ◌^◌, ◌∙◌, ◌≡◌, ◌≤◌}
use Rattle.vpc_base.proofs.Lemmas.{bytes_self, le-leb, member-list_any, not-true, row-member}
use Rattle.prefix_text.specs.Range.{range_of, range_text}
use Rattle.prefix_text.proofs.RangeLaws.{range_of-range_text}
use Rattle.query_words.specs.Ends.{end_with, far_named, known, opens, some_end, start_of}
use Rattle.query_words.specs.Terms.{end_at, end_of, ends_of, not_both, pairs_of, primary_side, query_of, sides_of, some_ports, ◌>>=◌}
use Rattle.query_words.specs.declared.queries.Query.{Query}
use Rattle.query_words.specs.declared.refusal.QueryRefusal.{QueryRefusal}
use Rattle.query_words.specs.declared.refusal.QueryRefusal.TheVariants as refusals
use Rattle.vpc_laws.proofs.Numbering.{accepted_numbers_are_own}
use Rattle.vpc_laws.specs.Types.{Box5, Description, End, EniNo, Interface}
use Rattle.vpc_model.specs.Far.{far_of_id}
use Rattle.vpc_model.specs.Terms.{IsAccepted, eni_no, has_interface, interface_at, is_gateway, no_interface}
use Rattle.vpc_model.specs.declared.places.End.TheVariants as places
use Rattle.described_hosts.specs.Hosts.{id_of}
use Rattle.reach_matrix.specs.Naming.{CanBeAsked, words_about}
use Rattle.reach_matrix.specs.Pairs.{address_of, has_primary, query_between, requests_between}

-- ---- ends

-- what a word that isn't `internet` names, where it is the id of a host
chosen : (internet there : Bool) (n : ℕ) (end : Result End QueryRefusal) (far : Result (Option End) QueryRefusal) (i : EniNo) → internet ≡ false → there ≡ true → end ≡ Ok (places.Interface i)
    → (if internet then Ok places.Internet else ((if there then some_end end else far) >>= known n)) ≡ Ok (places.Interface i)
chosen internet there n end far i one two three = rw (one, two, three) refl

host-end : (d : Description) (i : EniNo) → (let e = interface_at d i in is_gateway e.kind ≡ false) → end_at d i ≡ Ok (places.Interface i)
host-end d i host = rw host refl

is-there : (d : Description) (i : EniNo) → CanBeAsked d i → has_interface d (id_of d i) ≡ true
is-there d i can =
    let e = interface_at d i in
    member-list_any (λ (x : Interface). bytes_eq x.id (id_of d i)) d.interfaces e (row-member d.interfaces i.0 no_interface can.addressed.described) (bytes_self e.id)

end-is : (d : Description) (n : ℕ) (i : EniNo) → IsAccepted d → CanBeAsked d i
    → (let id = id_of d i in if bytes_eq id (codes "internet") then Ok places.Internet else (end_with d id >>= known n)) ≡ Ok (places.Interface i)
end-is d n i accepted can =
    let own = accepted_numbers_are_own d accepted in
    let e = interface_at d i in
    chosen (bytes_eq (id_of d i) (codes "internet")) (has_interface d (id_of d i)) n (end_at d (eni_no d (id_of d i))) (far_named d (far_of_id d (id_of d i))) i can.named (is-there d i can)
    (ap (end_at d) (own.interface i can.addressed.described) ∙ host-end d i (not-true (is_gateway e.kind) can.host))

-- a host is no service
host-opens : (d : Description) (n : ℕ) (end : Result End QueryRefusal) (i : EniNo) → end ≡ Ok (places.Interface i) → (end >>= opens d n) ≡ Ok (places.Interface i)
host-opens d n end i is = rw is refl

two-ends : (first second : Result End QueryRefusal) (start goal : End) → first ≡ Ok start → second ≡ Ok goal
    → (first >>= (λ s. second >>= (λ g. not_both s g))) ≡ not_both start goal
two-ends first second start goal one other = rw (one, other) refl

ends-are : (file : List ℕ) (d : Description) (pair : EniNo × EniNo) (ports : ℕ × ℕ) → IsAccepted d → CanBeAsked d pair.0 → CanBeAsked d pair.1
    → ends_of d (words_about file d pair ports) ≡ Ok (record { start = places.Interface pair.0; goal = places.Interface pair.1 })
ends-are file d pair ports accepted from to =
    let words = words_about file d pair ports in
    two-ends (start_of d words 4) (end_of d words 6) (places.Interface pair.0) (places.Interface pair.1)
    (host-opens d 4 (end_of d words 4) pair.0 (end-is d 4 pair.0 accepted from)) (end-is d 6 pair.1 accepted to)

-- ---- pairs of words

range-read : (o : Option (ℕ × ℕ)) (ports : ℕ × ℕ) → o ≡ Some ports → nat_le ports.0 ports.1 ≡ true → (ok_or o (refusals.BadWord 8) >>= some_ports 8) ≡ Ok ports
range-read o ports is proper = rw (is, proper) refl

-- what follows a value that was taken
taken-value : {A B T : Type 0} (take : A → T) (rest : T → Result B QueryRefusal) (r : Result A QueryRefusal) (a : A) → r ≡ Ok a → ((r >>= (λ x. Ok (take x))) >>= rest) ≡ rest (take a)
taken-value take rest r a is = rw is refl

pairs-are : (file : List ℕ) (d : Description) (pair : EniNo × EniNo) (ports : ℕ × ℕ) → ports.0 ≤ ports.1 → ports.1 < 65536
    → pairs_of (words_about file d pair ports) ≡ Ok (record { proto = 6; src = None; dst = None; p = (0, 65535); q = ports; max = 20000 })
pairs-are file d pair ports proper within =
    let read = range-read (range_of (range_text ports)) ports (range_of-range_text ports (omega arith) (omega arith)) (le-leb ports.0 ports.1 proper) in
    taken-value _ _ (ok_or (range_of (range_text ports)) (refusals.BadWord 8) >>= some_ports 8) ports read

-- ---- sides

some-is : (o : Option ℕ) → is_some o ≡ true → o ≡ Some (unwrap_or o 0)
some-is None e = cc
some-is (Some a) e = refl

side-is : (e : Interface) (o : Option ℕ) → is_some o ≡ true → primary_side e o ≡ Ok (unwrap_or o 0, unwrap_or o 0)
side-is e o has = ap (primary_side e) (some-is o has)

-- what is made of two values that were taken
two-values : {A B C : Type 0} (make : A → B → C) (r : Result A QueryRefusal) (s : Result B QueryRefusal) (a : A) (b : B) → r ≡ Ok a → s ≡ Ok b
    → (r >>= (λ x. s >>= (λ y. Ok (make x y)))) ≡ Ok (make a b)
two-values make r s a b one two = rw (one, two) refl

sides-are : (d : Description) (pair : EniNo × EniNo) (ports : ℕ × ℕ) → has_primary d pair.0 ≡ true → has_primary d pair.1 ≡ true
    → sides_of d (record { start = places.Interface pair.0; goal = places.Interface pair.1 }) (record { proto = 6; src = None; dst = None; p = (0, 65535); q = ports; max = 20000 })
    ≡ Ok (requests_between (address_of d pair.0) (address_of d pair.1) ports)
sides-are d pair ports from to =
    let e = interface_at d pair.0 in
    let g = interface_at d pair.1 in
    let box : (src dst : ℕ × ℕ) → Box5 = λ src dst. record { proto = (6, 6); src = src; dst = dst; p = (0, 65535); q = ports } in
    two-values box (primary_side e e.primary) (primary_side g g.primary) (address_of d pair.0, address_of d pair.0) (address_of d pair.1, address_of d pair.1)
    (side-is e e.primary from) (side-is g g.primary to)

-- ---- the query

-- what is made of three values that were taken
three-values : {A B C D : Type 0} (make : A → B → C → D) (more : A → B → Result C QueryRefusal) (r : Result A QueryRefusal) (s : Result B QueryRefusal) (a : A) (b : B) (c : C)
    → r ≡ Ok a → s ≡ Ok b → more a b ≡ Ok c → (r >>= (λ x. s >>= (λ y. more x y >>= (λ z. Ok (make x y z))))) ≡ Ok (make a b c)
three-values make more r s a b c one two three = rw (one, two, three) refl

pub words_give_the_query : (file : List ℕ) (d : Description) (pair : EniNo × EniNo) (ports : ℕ × ℕ) → IsAccepted d → CanBeAsked d pair.0 → CanBeAsked d pair.1 → ports.0 ≤ ports.1 → ports.1 < 65536
    → query_of d (words_about file d pair ports) ≡ Ok (query_between d pair ports)
words_give_the_query file d pair ports accepted from to proper within =
    let words = words_about file d pair ports in
    three-values (λ e p sides. record { start = e.start; goal = e.goal; sides = sides; max = p.max }) (sides_of d) (ends_of d words) (pairs_of words) _ _
    (requests_between (address_of d pair.0) (address_of d pair.1) ports)
    (ends-are file d pair ports accepted from to) (pairs-are file d pair ports proper within) (sides-are d pair ports from.addressed.primary to.addressed.primary)
