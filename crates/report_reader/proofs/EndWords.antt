-- The words for ends are their ids.
use Rattle.std.proofs.Common.{◌≡◌, ◌∙◌, ◌∷◌, [], List, Ok, Option, Result, Some, ap, codes, false, refl, true, ℕ}
use Rattle.std.specs.Result.{result_ok}
use Rattle.std.specs.Str.{bytes_eq}
use Rattle.std.proofs.lemmas.Bool.{cond-false, cond-true}
use Rattle.vpc_base.proofs.Bytes.{bytes_self}
use Rattle.vpc_base.proofs.Members.{member-list_any, row-member}
use Rattle.vpc_laws.proofs.Numbering.{accepted_numbers_are_own}
use Rattle.vpc_laws.specs.Types.{Description, End, EniNo, FarNo, Interface}
use Rattle.vpc_model.specs.declared.places.End.TheVariants as ends
use Rattle.vpc_model.specs.Accepted.{IsAccepted}
use Rattle.vpc_model.specs.Far.{far_of_id, is_far_end}
use Rattle.vpc_model.specs.Lookup.{eni_no, far_at, has_interface, interface_at, no_interface}
use Rattle.vpc_model.specs.Step.Crossing.{is_gateway}
use Rattle.vpc_model.specs.Told.{end_id}
use Rattle.query_words.specs.Ends.{end_at, end_of, far_named, is_service, known, opens, some_end}
use Rattle.query_words.specs.Refusal.{◌>>=◌}
use Rattle.query_words.specs.declared.refusal.QueryRefusal.{QueryRefusal}
use Rattle.report_reader.specs.Lines.{end_named, start_named}
use Rattle.report_reader.specs.ReadsBack.{CanBeNamed, IsNamed}
use Rattle.report_reader.proofs.FarEnds.{found_far_end}

-- the id of an interface is there
has_own : (d : Description) (i : EniNo) → CanBeNamed d i → (let e = interface_at d i in has_interface d e.id ≡ true)
has_own d i h =
    let e = interface_at d i in
    member-list_any (λ (x : Interface). bytes_eq x.id e.id) d.interfaces e (row-member d.interfaces i.0 no_interface h.described) (bytes_self e.id)

-- an end by its word
abbrev read_end : Description → List ℕ → Result End QueryRefusal
read_end d word = end_of d (word ∷ []) 1

host_named : (d : Description) (i : EniNo) (id : List ℕ) → bytes_eq id (codes "internet") ≡ false → has_interface d id ≡ true → eni_no d id ≡ i
    → (let e = interface_at d i in is_gateway e.kind ≡ false) → read_end d id ≡ Ok (ends.Interface i)
host_named d i id other has own host =
    cond-false _ _ _ other
    ∙ ap (λ (r : Result (Option End) QueryRefusal). r >>= known 1)
    (cond-true _ _ _ has ∙ ap some_end (ap (λ (x : EniNo). end_at d x) own ∙ cond-false _ _ _ host))

far_is_named : (d : Description) (k : FarNo) (id : List ℕ) → bytes_eq id (codes "internet") ≡ false → has_interface d id ≡ false → far_of_id d id ≡ Some k
    → is_far_end d (far_at d k) ≡ true → read_end d id ≡ Ok (ends.Far k)
far_is_named d k id other alone found is_end =
    cond-false _ _ _ other
    ∙ ap (λ (r : Result (Option End) QueryRefusal). r >>= known 1)
    (cond-false _ _ _ alone ∙ (ap (far_named d) found ∙ ap some_end (cond-true _ _ _ is_end)))

-- the id of an end is the word for it
read_end-end_id : (d : Description) (end : End) → IsAccepted d → IsNamed d end → read_end d (end_id d end) ≡ Ok end
read_end-end_id d (ends.Interface i) accepted h =
    let e = interface_at d i in
    host_named d i e.id h.other (has_own d i h) ((accepted_numbers_are_own d accepted).interface i h.described) h.host
read_end-end_id d ends.Internet accepted h = refl
read_end-end_id d (ends.Far k) accepted h =
    let far = far_at d k in
    let found = found_far_end d far.id k h.named in
    far_is_named d k far.id h.other h.alone found.0 found.1

pub end_named-end_id : (d : Description) (end : End) → IsAccepted d → IsNamed d end → end_named d (end_id d end) ≡ Some end
end_named-end_id d end accepted h = ap (λ (r : Result End QueryRefusal). result_ok r) (read_end-end_id d end accepted h)

-- and of what opens connections
pub start_named-end_id : (d : Description) (end : End) → IsAccepted d → IsNamed d end → is_service d end ≡ false → start_named d (end_id d end) ≡ Some end
start_named-end_id d end accepted h opening =
    ap (λ (r : Result End QueryRefusal). result_ok (r >>= opens d 1)) (read_end-end_id d end accepted h)
    ∙ ap (λ (r : Result End QueryRefusal). result_ok r) (cond-false _ _ _ opening)
