-- What became of files, from what was read of them.
use Rattle.std.proofs.Common.{◌≡◌, ◌<◌, ◌≤◌, ℕ, List, Option, Some, None, [], ◌∷◌, zero, suc, arith, codes, inl, inr, length, refl, subst, sym, false}
use Rattle.vpc_io.specs.Rose.{Rose}
use Rattle.vpc_io.specs.Told.{IfTold}
use Rattle.block_report.specs.Refusals.{cause_text}
use Rattle.bundle.specs.Meaning.{IsToldOf, is_memory}
use Rattle.bundle.specs.declared.refusal.BundleRefusal.{BundleRefusal}
use Rattle.bundle.proofs.MeaningLemmas.{cause_if_told}
use Rattle.vpc_laws.specs.Types.{Description}
use Rattle.command_job.specs.Files.{file_limit}
use Rattle.command_job.specs.declared.status.Answer.{Answer}
use Rattle.command_job.specs.declared.status.Status.{Status}
use Rattle.command_job.specs.declared.status.Status.TheVariants as ends
use Rattle.vpc_commands.specs.Files.{IsAnsweredAfter, IsAnsweredBy, IsAnsweredTo, IsDescribed, IsNetworkOf, IsNoNetwork, IsRefused, IsTaken, refusal_line}
use Rattle.vpc_commands.specs.Files as files
use Rattle.vpc_commands.specs.declared.files.Described.{Described}
use Rattle.vpc_commands.specs.declared.files.Described.TheVariants as described
use Rattle.vpc_commands.specs.declared.files.Which.{Which}
use Rattle.vpc_commands.specs.declared.files.Which.TheVariants as numbers

-- the bytes of a file, as they are told
told_bytes : (told : Option (List ℕ)) (bytes : List ℕ) → IfTold told (λ b. bytes ≡ b) → IfTold told (λ b. b ≡ bytes)
told_bytes None bytes is = tt
told_bytes (Some b) bytes is = sym is

-- more bytes than a limit
more_bytes : (limit : ℕ) → (bytes : List ℕ) × (limit < length bytes)
more_bytes zero = (0 ∷ [], omega arith)
more_bytes (suc n) = let fewer = more_bytes n in (0 ∷ fewer.0, one_more n fewer.0 fewer.1)
  where
    one_more : (n : ℕ) (bytes : List ℕ) → n < length bytes → suc n < length (0 ∷ bytes)
    one_more n bytes less = omega arith

-- bytes that are too many, and are those of the file where it is told
some_long : (told : Option (List ℕ)) (limit : ℕ) → IfTold told (λ bytes. limit < length bytes) → (bytes : List ℕ) × IfTold told (λ b. b ≡ bytes) × (limit < length bytes)
some_long None limit long = let more = more_bytes limit in (more.0, tt, more.1)
some_long (Some bytes) limit long = (bytes, refl, long)

-- ---- the file that describes the network

-- a cause that was told refuses the bytes
pub is_refused : (which : Which) (bytes : List ℕ) (cause : BundleRefusal) (status : Status) (text : List ℕ)
    → IsToldOf bytes cause → (status ≡ ends.Description) × (text ≡ refusal_line which (cause_text cause)) → is_memory cause ≡ false → IsRefused which bytes status text
is_refused which bytes cause status text is h not = record { cause = cause; is_cause = cause_if_told bytes cause not is; status_is = h.0; text_is = h.1 }

-- what became of bytes that were read is what became of their file
pub taken_of_bytes : (which : Which) (told : List ℕ → Option (List ℕ)) (failed : List ℕ → Type 0) (file bytes : List ℕ) (x : Described)
    → IfTold (told file) (λ b. bytes ≡ b) → length bytes ≤ file_limit → IsDescribed which bytes x → IsTaken which told failed file x
taken_of_bytes which told failed file bytes (described.Network d) read few is = record { bytes = bytes; told_so = told_bytes (told file) bytes read; describes = is }
taken_of_bytes which told failed file bytes (described.Refused a) read few is = files.refused bytes (told_bytes (told file) bytes read) few is

pub is_too_big : (which : Which) (told : List ℕ → Option (List ℕ)) (failed : List ℕ → Type 0) (file : List ℕ) (status : Status) (text : List ℕ)
    → IfTold (told file) (λ bytes. file_limit < length bytes) → (status ≡ ends.Description) × (text ≡ refusal_line which (codes "TooBig"))
    → IsNoNetwork which told failed file status text
is_too_big which told failed file status text long h = let found = some_long (told file) file_limit long in files.too_big found.0 found.1 found.2 h.0 h.1

-- the network that was taken, or why there is none
pub network_taken : (which : Which) (told : List ℕ → Option (List ℕ)) (failed : List ℕ → Type 0) (file : List ℕ) (x : Described) (d : Description)
    → x ≡ described.Network d → IsTaken which told failed file x → IsNetworkOf told file d
network_taken which told failed file x d is taken = subst (IsTaken which told failed file) is taken

pub none_taken : (which : Which) (told : List ℕ → Option (List ℕ)) (failed : List ℕ → Type 0) (file : List ℕ) (x : Described) (a : Answer)
    → x ≡ described.Refused a → IsTaken which told failed file x → IsNoNetwork which told failed file a.status a.text.items
none_taken which told failed file x a is taken = subst (IsTaken which told failed file) is taken

-- ---- the file of a text

-- what is answered to the bytes that were read is answered to their file
pub text_of_bytes : (fault : List ℕ) (told : List ℕ → Option (List ℕ)) (failed : List ℕ → Type 0) (file bytes : List ℕ) (refusal : List ℕ → List ℕ) (answer : List ℕ → Status → List ℕ → Type 0) (status : Status) (text : List ℕ)
    → IfTold (told file) (λ b. bytes ≡ b) → length bytes ≤ file_limit → answer bytes status text → IsAnsweredTo fault told failed file refusal answer status text
text_of_bytes fault told failed file bytes refusal answer status text read few is = files.answered bytes (told_bytes (told file) bytes read) few is

pub text_is_too_big : (fault : List ℕ) (told : List ℕ → Option (List ℕ)) (failed : List ℕ → Type 0) (file : List ℕ) (refusal : List ℕ → List ℕ) (answer : List ℕ → Status → List ℕ → Type 0) (status : Status) (text : List ℕ)
    → IfTold (told file) (λ bytes. file_limit < length bytes) → (status ≡ ends.Query) × (text ≡ refusal (codes "TooBig"))
    → IsAnsweredTo fault told failed file refusal answer status text
text_is_too_big fault told failed file refusal answer status text long h = let found = some_long (told file) file_limit long in files.too_big found.0 found.1 found.2 h.0 h.1

-- ---- a shelf that was asked before

-- what rose since a later time rose since an earlier one
pub rose_before : (before after now : ℕ) → before ≤ after → Rose after now → Rose before now
rose_before before after now le (inl less) = inl (omega arith)
rose_before before after now le (inr last) = inr last

-- what is answered by a shelf is answered by one that tells the same, and of which as many files failed
pub text_before : (fault : List ℕ) (told before : List ℕ → Option (List ℕ)) (failed sooner : List ℕ → Type 0) (file : List ℕ) (refusal : List ℕ → List ℕ) (answer : List ℕ → Status → List ℕ → Type 0) (status : Status) (text : List ℕ)
    → ((n : List ℕ) → told n ≡ before n) → ((n : List ℕ) → failed n → sooner n)
    → IsAnsweredTo fault told failed file refusal answer status text → IsAnsweredTo fault before sooner file refusal answer status text
text_before fault told before failed sooner file refusal answer status text same follows (files.not_read failure ends_so says) = files.not_read (follows file failure) ends_so says
text_before fault told before failed sooner file refusal answer status text same follows (files.too_big bytes is long ends_so says) =
    files.too_big bytes (subst (λ (o : Option (List ℕ)). IfTold o (λ b. b ≡ bytes)) (same file) is) long ends_so says
text_before fault told before failed sooner file refusal answer status text same follows (files.answered bytes is few so) =
    files.answered bytes (subst (λ (o : Option (List ℕ)). IfTold o (λ b. b ≡ bytes)) (same file) is) few so

-- ---- the second description

no_network_before : (which : Which) (told before : List ℕ → Option (List ℕ)) (failed sooner : List ℕ → Type 0) (file : List ℕ) (status : Status) (text : List ℕ)
    → ((n : List ℕ) → told n ≡ before n) → ((n : List ℕ) → failed n → sooner n)
    → IsNoNetwork which told failed file status text → IsNoNetwork which before sooner file status text
no_network_before which told before failed sooner file status text same follows (files.not_read failure ends_so says) = files.not_read (follows file failure) ends_so says
no_network_before which told before failed sooner file status text same follows (files.too_big bytes is long ends_so says) =
    files.too_big bytes (subst (λ (o : Option (List ℕ)). IfTold o (λ b. b ≡ bytes)) (same file) is) long ends_so says
no_network_before which told before failed sooner file status text same follows (files.refused bytes is few refused) =
    files.refused bytes (subst (λ (o : Option (List ℕ)). IfTold o (λ b. b ≡ bytes)) (same file) is) few refused

-- what is answered by a shelf is answered by one that tells the same, and of which as many files failed
pub after_before : (told before : List ℕ → Option (List ℕ)) (failed sooner : List ℕ → Type 0) (file : List ℕ) (answer : Description → Status → List ℕ → Type 0) (status : Status) (text : List ℕ)
    → ((n : List ℕ) → told n ≡ before n) → ((n : List ℕ) → failed n → sooner n)
    → IsAnsweredAfter told failed file answer status text → IsAnsweredAfter before sooner file answer status text
after_before told before failed sooner file answer status text same follows (files.no_network none) =
    files.no_network (no_network_before numbers.After told before failed sooner file status text same follows none)
after_before told before failed sooner file answer status text same follows (files.answered d is so) =
    files.answered d
    (record { bytes = is.bytes; told_so = subst (λ (o : Option (List ℕ)). IfTold o (λ b. b ≡ is.bytes)) (same file) is.told_so; describes = is.describes }) so

-- ---- another answer

-- what is answered in the network of a file is answered so too, where it follows in each network
pub answered_as : {which : Which} (told : List ℕ → Option (List ℕ)) (failed : List ℕ → Type 0) (file : List ℕ) (answer other : Description → Status → List ℕ → Type 0) (status : Status) (text : List ℕ)
    → ((d : Description) → answer d status text → other d status text)
    → IsAnsweredBy which told failed file answer status text → IsAnsweredBy which told failed file other status text
answered_as told failed file answer other status text follows (files.no_network none) = files.no_network none
answered_as told failed file answer other status text follows (files.answered d is so) = files.answered d is (follows d so)
