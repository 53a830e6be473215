-- When a header is told.
use Rattle.std.proofs.Common.{◌≡◌, ◌≢◌, ◌⊎◌, ◌∷◌, [], Bool, cond, false, inl, inr, refl, true}
use Rattle.std.proofs.lemmas.Bool.{both_ways}
use Rattle.vpc_laws.proofs.Same.{headers_are_told_apart}
use Rattle.vpc_laws.specs.Types.{Header}
use Rattle.vpc_model.specs.Connections.{same_header}
use Rattle.walk_reasons.specs.Decisions.{becomes}
use Rattle.walk_reasons.specs.Reasons.{rewritten}

told-by : (b : Bool) (before h : Header) → same_header before h ≡ b
    → ((before ≡ h) × (cond b [] (becomes h ∷ []) ≡ [])) ⊎ ((before ≢ h) × (cond b [] (becomes h ∷ []) ≡ becomes h ∷ []))
told-by true before h is = inl ((headers_are_told_apart before h).0 is, refl)
told-by false before h is = inr (λ same. both_ways (same_header before h) is ((headers_are_told_apart before h).1 same), refl)

pub rewriting_is_told : (before h : Header) → ((before ≡ h) × (rewritten before h ≡ [])) ⊎ ((before ≢ h) × (rewritten before h ≡ becomes h ∷ []))
rewriting_is_told before h = told-by (same_header before h) before h refl
