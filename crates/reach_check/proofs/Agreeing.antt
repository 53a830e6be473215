-- What an agreement tells of the ends that requests reach.
use Rattle.std.proofs.Common.{◌≡◌, ◌∙◌, List, Option, ap, sym, ℕ}
use Rattle.std.specs.Prelude.{option_map}
use Rattle.journey_changes.specs.Sent.{Sent, reached}
use Rattle.listing_check.specs.Agreement.{agreed, agreement_of}
use Rattle.vpc_laws.specs.Types.{Description, End, Header}
use Rattle.vpc_model.specs.Told.{end_id}
use Rattle.reach_check.specs.Reaches.{end_told}

-- by the end that all requests of a part reach
pub agreement_of-part : (s : Sent) (d : Description) (wanted : Option (List ℕ)) (told : Option End) (h : Header) → s.network ≡ d → told ≡ reached s h
    → agreement_of (end_told s) wanted h ≡ agreed wanted (option_map (end_id d) told)
unfolding agreement_of
agreement_of-part s d wanted told h same is =
    ap (λ (o : Option End). agreed wanted (option_map (end_id s.network) o)) (sym is)
    ∙ ap (λ (x : Description). agreed wanted (option_map (end_id x) told)) same
