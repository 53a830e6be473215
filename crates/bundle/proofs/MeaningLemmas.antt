-- What the bytes of a bundle mean, from what its value means.
use Rattle.std.proofs.Common.{◌≡◌, Err, List, None, Ok, Option, Result, Some, false, ℕ}
use Rattle.serde_json.specs.Data.{Data}
use Rattle.json_fields.specs.declared.fault.FieldFault.TheVariants as faults
use Rattle.bundle.specs.Types.{Description, FieldFault, Refusal}
use Rattle.vpc_model.specs.Accepted.{refusal_of}
use Rattle.vpc_model.specs.declared.refusals.Refusal.TheVariants as refusals
use Rattle.bundle.specs.Json.{IsJson}
use Rattle.bundle.specs.Meaning.{IsCause, IsDescribedBy, IsMeantBy, IsToldOf, IsUnread, accepted, description_of, is_memory, judged, meaning_of, of_fault, of_refusal}
use Rattle.bundle.specs.declared.refusal.BundleRefusal.{BundleRefusal}
use Rattle.bundle.specs.declared.refusal.BundleRefusal.TheVariants as causes

-- no value means that its bytes are none
never_of_refusal : (cause : Refusal) → of_refusal cause ≡ causes.NotJson → ⊥
never_of_refusal (refusals.DuplicateId id) e = cc
never_of_refusal (refusals.MissingReference from to) e = cc
never_of_refusal (refusals.DuplicateAddress vpc a) e = cc
never_of_refusal (refusals.DuplicatePublic a) e = cc
never_of_refusal (refusals.NoRouteTable id) e = cc
never_of_refusal (refusals.NoAcl id) e = cc
never_of_refusal (refusals.TwoInternetGateways id) e = cc
never_of_refusal (refusals.TwoTables id) e = cc
never_of_refusal (refusals.TwoAcls id) e = cc
never_of_refusal (refusals.TooManyRows name) e = cc
never_of_refusal refusals.Memory e = cc

never_of_fault : (fault : FieldFault) → of_fault fault ≡ causes.NotJson → ⊥
never_of_fault (faults.WrongShape path) e = cc
never_of_fault (faults.BadText path) e = cc
never_of_fault faults.Memory e = cc

never_accepted : (d : Description) (cause : Option Refusal) → accepted d cause ≡ Err causes.NotJson → ⊥
never_accepted d None e = cc
never_accepted d (Some cause) e = let same : of_refusal cause ≡ causes.NotJson = cc in never_of_refusal cause same

never_judged : (read : Result Description FieldFault) → judged read ≡ Err causes.NotJson → ⊥
never_judged (Ok d) e = never_accepted d (refusal_of d) e
never_judged (Err fault) e = let same : of_fault fault ≡ causes.NotJson = cc in never_of_fault fault same

-- what the value means is what the bytes mean
pub described_if_meant : (bytes : List ℕ) (value : Data) (answer : Result Description BundleRefusal)
    → IsJson bytes value → IsMeantBy (meaning_of value) answer → IsDescribedBy bytes answer
described_if_meant bytes value (Ok d) json is = record { value = value; json = json; meaning = is }
described_if_meant bytes value (Err causes.NotJson) json is = absurd (never_judged (description_of value) is)
described_if_meant bytes value (Err (causes.WrongShape path)) json is = record { value = value; json = json; meaning = is }
described_if_meant bytes value (Err (causes.BadText path)) json is = record { value = value; json = json; meaning = is }
described_if_meant bytes value (Err (causes.Rows cause)) json is = record { value = value; json = json; meaning = is }
described_if_meant bytes value (Err causes.Memory) json is = tt

-- bytes that were not read are told so
pub told_if_unread : (bytes : List ℕ) (cause : BundleRefusal) → IsUnread bytes cause → IsToldOf bytes cause
told_if_unread bytes causes.NotJson is = is
told_if_unread bytes (causes.WrongShape path) is = absurd is
told_if_unread bytes (causes.BadText path) is = absurd is
told_if_unread bytes (causes.Rows cause) is = absurd is
told_if_unread bytes causes.Memory is = tt

-- a reason that was told is the first, unless memory was wanting
pub cause_if_told : (bytes : List ℕ) (cause : BundleRefusal) → is_memory cause ≡ false → IsToldOf bytes cause → IsCause bytes cause
cause_if_told bytes causes.NotJson not is = is
cause_if_told bytes (causes.WrongShape path) not is = is
cause_if_told bytes (causes.BadText path) not is = is
cause_if_told bytes (causes.Rows cause) not is = is
cause_if_told bytes causes.Memory not is = cc
