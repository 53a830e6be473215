-- What is known of files that are told.
use Rattle.std.proofs.Common.{◌≡◌, ◌∙◌, ◌∷◌, ◌<◌, ◌≤◌, ◌⊎◌, [], ℕ, List, None, Option, Result, Some, Err, Ok, ap, arith, inl, inr, length, refl, subst, sym}
use Rattle.serde_json.specs.Data.{Data}
use Rattle.serde_json.specs.Read.{read}
use Rattle.vpc_io.specs.Told.{IfTold}
use Rattle.bundle.specs.Meaning.{IsCause, Means, accepted, description_of, judged, meaning_of}
use Rattle.bundle.specs.Types.{FieldFault, Refusal}
use Rattle.bundle.specs.declared.refusal.BundleRefusal.{BundleRefusal}
use Rattle.bundle.specs.declared.refusal.BundleRefusal.TheVariants as causes
use Rattle.vpc_laws.specs.Types.{Description}
use Rattle.vpc_model.specs.Accepted.{IsAccepted, first_cause, refusals_of}
use Rattle.command_job.specs.Files.{file_limit}
use Rattle.command_job.specs.declared.status.Status.{Status}
use Rattle.vpc_commands.specs.Terms.{AreToldBytes, Describes, IsAnsweredBy, IsAnsweredTo, IsFault, IsNoNetwork, IsToldNetwork, Which}
use Rattle.vpc_commands.specs.Files as files

-- ---- a fault, or what is known

-- a fault, or what follows from what is known
pub or_known : {A B C : Type 0} → (B → C) → A ⊎ B → A ⊎ C
or_known follows (inl a) = inl a
or_known follows (inr b) = inr (follows b)

pub or_either : {A B C : Type 0} → (B → A ⊎ C) → A ⊎ B → A ⊎ C
or_either follows (inl a) = inl a
or_either follows (inr b) = follows b

-- ---- bytes describe one network

same_value : (bytes : List ℕ) (v w : Data) → read bytes ≡ Some v → read bytes ≡ Some w → v ≡ w
same_value bytes v w a b = let same : Some v ≡ Some w = sym a ∙ b in cc

same_network : (v w : Data) (d e : Description) → v ≡ w → meaning_of v ≡ Ok d → meaning_of w ≡ Ok e → d ≡ e
same_network v w d e value a b = let same : Ok d ≡ Ok e = sym a ∙ (ap meaning_of value ∙ b) in cc

described_network : (bytes : List ℕ) (d e : Description) → Describes bytes d → Describes bytes e → d ≡ e
described_network bytes d e a b = same_network a.value b.value d e (same_value bytes a.value b.value a.json.1 b.json.1) a.accepted b.accepted

-- a bundle that is accepted has no cause against it
not_accepted : (bytes : List ℕ) (cause : BundleRefusal) (d : Description) → Means bytes (Err cause) → Describes bytes d → ⊥
not_accepted bytes cause d is described =
    let value = same_value bytes is.value described.value is.json.1 described.json.1 in
    let same : Err cause ≡ Ok d = sym is.meaning ∙ (ap meaning_of value ∙ described.accepted) in
    cc

no_cause : (bytes : List ℕ) (cause : BundleRefusal) (d : Description) → IsCause bytes cause → Describes bytes d → ⊥
no_cause bytes causes.NotJson d is described = let same : None ≡ Some described.value = sym (is described.json.0) ∙ described.json.1 in cc
no_cause bytes (causes.WrongShape path) d is described = not_accepted bytes (causes.WrongShape path) d is described
no_cause bytes (causes.BadText path) d is described = not_accepted bytes (causes.BadText path) d is described
no_cause bytes (causes.Rows cause) d is described = not_accepted bytes (causes.Rows cause) d is described
no_cause bytes causes.Memory d is described = is

-- ---- told files

told_is : (told : Option (List ℕ)) (a b : List ℕ) → told ≡ Some a → IfTold told (λ x. x ≡ b) → b ≡ a
told_is None a b is same = cc
told_is (Some x) a b is same = let e : Some x ≡ Some a = is in cc

too_many : (more few : List ℕ) (limit : ℕ) → limit < length more → length few ≤ limit → more ≡ few → ⊥
too_many more few limit long short same = let lengths = ap length same in omega (arith, lengths)

-- nothing refuses a told file that describes a network, but that it could not be read
fault_of_file : {which : Which} (told : List ℕ → Option (List ℕ)) (failed : List ℕ → Type 0) (file : List ℕ) (d : Description) (status : Status) (text : List ℕ)
    → IsNoNetwork which told failed file status text → IsToldNetwork told file d → IsFault status
fault_of_file told failed file d status text (files.not_read failure status_is says) is = inl status_is
fault_of_file told failed file d status text (files.too_big bytes read long status_is says) is =
    let described = is.describes in
    absurd (too_many bytes is.bytes file_limit long described.few (told_is (told file) is.bytes bytes is.told_so read))
fault_of_file told failed file d status text (files.refused bytes read few refused) is =
    absurd (no_cause bytes refused.cause d refused.is_cause (subst (λ (b : List ℕ). Describes b d) (sym (told_is (told file) is.bytes bytes is.told_so read)) is.describes))

-- a fault, or the answer in the network that the told bytes describe
pub known_in : {which : Which} (told : List ℕ → Option (List ℕ)) (failed : List ℕ → Type 0) (file : List ℕ) (answer : Description → Status → List ℕ → Type 0) (d : Description) (status : Status) (text : List ℕ)
    → IsToldNetwork told file d → IsAnsweredBy which told failed file answer status text → IsFault status ⊎ answer d status text
known_in told failed file answer d status text is (files.no_network none) = inl (fault_of_file told failed file d status text none is)
known_in told failed file answer d status text is (files.answered e of_file so) =
    let these = subst (λ (b : List ℕ). Describes b e) (told_is (told file) is.bytes of_file.bytes is.told_so of_file.told_so) of_file.describes in
    inr (subst (λ (n : Description). answer n status text) (described_network is.bytes e d these is.describes) so)

-- a fault, or the answer to the told bytes of a file
pub known_to : (fault : List ℕ) (told : List ℕ → Option (List ℕ)) (failed : List ℕ → Type 0) (file : List ℕ) (refusal : List ℕ → List ℕ) (answer : List ℕ → Status → List ℕ → Type 0) (bytes : List ℕ) (status : Status) (text : List ℕ)
    → AreToldBytes told file bytes → IsAnsweredTo fault told failed file refusal answer status text → IsFault status ⊎ answer bytes status text
known_to fault told failed file refusal answer bytes status text is (files.not_read failure status_is says) = inl (inl status_is)
known_to fault told failed file refusal answer bytes status text is (files.too_big other read long status_is says) =
    absurd (too_many other bytes file_limit long is.few (told_is (told file) bytes other is.told_so read))
known_to fault told failed file refusal answer bytes status text is (files.answered other read few so) =
    inr (subst (λ (b : List ℕ). answer b status text) (told_is (told file) bytes other is.told_so read) so)

-- ---- networks that are told

by_causes : (d e : Description) (causes : List Refusal) → refusals_of d ≡ causes → accepted d (first_cause causes) ≡ Ok e → IsAccepted e
by_causes d e [] none is = let same : d ≡ e = cc in subst IsAccepted same none
by_causes d e (cause ∷ others) some is = absurd cc

judged_accepted : (read_rows : Result Description FieldFault) (d : Description) → judged read_rows ≡ Ok d → IsAccepted d
judged_accepted (Ok e) d is = by_causes e d (refusals_of e) refl is
judged_accepted (Err fault) d is = absurd cc

-- the description of a told network is accepted
pub told_is_accepted : (told : List ℕ → Option (List ℕ)) (file : List ℕ) (d : Description) → IsToldNetwork told file d → IsAccepted d
told_is_accepted told file d is = let described = is.describes in judged_accepted (description_of described.value) d described.accepted
