-- What a command answers by the files that its words name.
use Rattle.std.specs.Prelude.{ℕ, ◌++◌, ◌<◌, ◌≡◌, ◌≤◌, List, Ok, Option, Some, codes, length}
use Rattle.serde_json.specs.Data.{Data}
use Rattle.vpc_io.specs.Rose.{Rose}
use Rattle.vpc_io.specs.Told.{IfTold}
use Rattle.vpc_model.specs.declared.rows.Description.{Description}
use Rattle.block_report.specs.Refusals.{cause_text}
use Rattle.block_report.specs.Words.{word}
use Rattle.bundle.specs.Json.{IsJson}
use Rattle.bundle.specs.Meaning.{IsCause, meaning_of}
use Rattle.bundle.specs.declared.refusal.BundleRefusal.{BundleRefusal}
use Rattle.command_job.specs.Files.{file_limit}
use Rattle.command_job.specs.Lines.{line}
use Rattle.command_job.specs.declared.status.Status.{Status}
use Rattle.command_job.specs.declared.status.Status.TheVariants as ends
use Rattle.vpc_commands.specs.declared.files.Described.{Described}
use Rattle.vpc_commands.specs.declared.files.Described.TheVariants as files
use Rattle.vpc_commands.specs.declared.files.Which.{Which}
use Rattle.vpc_commands.specs.declared.files.Which.TheVariants as numbers

-- the files that could not be read: their counts of faults have risen
abbrev pub HasFailed : (List ℕ → ℕ) → (List ℕ → ℕ) → List ℕ → Type 0
HasFailed before after file = Rose (before file) (after file)

-- ---- the file that describes the network

-- the bytes are a bundle whose description is accepted
pub record Describes (bytes : List ℕ) (network : Description) : Type 0 where
  pub few : length bytes ≤ file_limit
  pub value : Data
  pub json : IsJson bytes value
  pub accepted : meaning_of value ≡ Ok network

-- that a file could not be read, by its number
abbrev pub read_fault : Which → List ℕ
read_fault numbers.First = codes "read fault 1"
read_fault numbers.After = codes "read fault 2"

-- that a description is refused; that of the network after a change is told apart
abbrev pub refused_text : Which → List ℕ
refused_text numbers.First = codes "refused description"
refused_text numbers.After = codes "refused description after"

-- the line of the refusal
abbrev pub refusal_line : Which → List ℕ → List ℕ
refusal_line which cause = line (refused_text which ++ word cause)

-- the first cause against the bytes, and its answer
pub record IsRefused (which : Which) (bytes : List ℕ) (status : Status) (text : List ℕ) : Type 0 where
  pub cause : BundleRefusal
  pub is_cause : IsCause bytes cause
  pub status_is : status ≡ ends.Description
  pub text_is : text ≡ refusal_line which (cause_text cause)

-- why a file describes no network: it failed in this call, is too long, or the first cause against it
pub data IsNoNetwork (which : Which) (told : List ℕ → Option (List ℕ)) (failed : List ℕ → Type 0) (file : List ℕ) (status : Status) (text : List ℕ) : Type 0 where
  not_read : failed file → status ≡ ends.Read → text ≡ line (read_fault which) → IsNoNetwork which told failed file status text
  too_big : (bytes : List ℕ) → IfTold (told file) (λ b. b ≡ bytes) → file_limit < length bytes
      → status ≡ ends.Description → text ≡ refusal_line which (codes "TooBig") → IsNoNetwork which told failed file status text
  refused : (bytes : List ℕ) → IfTold (told file) (λ b. b ≡ bytes) → length bytes ≤ file_limit
      → IsRefused which bytes status text → IsNoNetwork which told failed file status text

-- the network that a file describes; of a file of which nothing is told, that some bytes describe
pub record IsNetworkOf (told : List ℕ → Option (List ℕ)) (file : List ℕ) (network : Description) : Type 0 where
  pub bytes : List ℕ
  pub told_so : IfTold (told file) (λ b. b ≡ bytes)
  pub describes : Describes bytes network

-- what is answered in the network of a file, by what is told of files and which of them failed in this call
pub data IsAnsweredBy (which : Which) (told : List ℕ → Option (List ℕ)) (failed : List ℕ → Type 0) (file : List ℕ) (answer : Description → Status → List ℕ → Type 0) (status : Status) (text : List ℕ) : Type 0 where
  no_network : IsNoNetwork which told failed file status text → IsAnsweredBy which told failed file answer status text
  answered : (network : Description) → IsNetworkOf told file network → answer network status text → IsAnsweredBy which told failed file answer status text

-- by the only description, or that of the network before a change
abbrev pub IsAnsweredIn : (List ℕ → Option (List ℕ)) → (List ℕ → Type 0) → List ℕ → (Description → Status → List ℕ → Type 0) → Status → List ℕ → Type 0
IsAnsweredIn told failed file answer status text = IsAnsweredBy numbers.First told failed file answer status text

-- by that of the network after it
abbrev pub IsAnsweredAfter : (List ℕ → Option (List ℕ)) → (List ℕ → Type 0) → List ℕ → (Description → Status → List ℕ → Type 0) → Status → List ℕ → Type 0
IsAnsweredAfter told failed file answer status text = IsAnsweredBy numbers.After told failed file answer status text

-- ---- the file of a text

-- that it could not be read, by its number: after one description, and after two
abbrev pub second_fault : List ℕ
second_fault = codes "read fault 2"

abbrev pub third_fault : List ℕ
third_fault = codes "read fault 3"

-- what is answered to its bytes; a line refuses them where they are too many
pub data IsAnsweredTo (fault : List ℕ) (told : List ℕ → Option (List ℕ)) (failed : List ℕ → Type 0) (file : List ℕ) (refusal : List ℕ → List ℕ) (answer : List ℕ → Status → List ℕ → Type 0) (status : Status) (text : List ℕ) : Type 0 where
  not_read : failed file → status ≡ ends.Read → text ≡ line fault → IsAnsweredTo fault told failed file refusal answer status text
  too_big : (bytes : List ℕ) → IfTold (told file) (λ b. b ≡ bytes) → file_limit < length bytes
      → status ≡ ends.Query → text ≡ refusal (codes "TooBig") → IsAnsweredTo fault told failed file refusal answer status text
  answered : (bytes : List ℕ) → IfTold (told file) (λ b. b ≡ bytes) → length bytes ≤ file_limit
      → answer bytes status text → IsAnsweredTo fault told failed file refusal answer status text

-- ---- what became of a file

-- the network of bytes that are no more than a file may have, or the cause against them with its answer
abbrev pub IsDescribed : Which → List ℕ → Described → Type 0
IsDescribed which bytes (files.Network d) = Describes bytes d
IsDescribed which bytes (files.Refused a) = IsRefused which bytes a.status a.text.items

-- the network of a file, or why it describes none
abbrev pub IsTaken : Which → (List ℕ → Option (List ℕ)) → (List ℕ → Type 0) → List ℕ → Described → Type 0
IsTaken which told failed file (files.Network d) = IsNetworkOf told file d
IsTaken which told failed file (files.Refused a) = IsNoNetwork which told failed file a.status a.text.items

-- ---- told files

-- the told bytes of a file describe the network
pub record IsToldNetwork (told : List ℕ → Option (List ℕ)) (file : List ℕ) (network : Description) : Type 0 where
  pub bytes : List ℕ
  pub told_so : told file ≡ Some bytes
  pub describes : Describes bytes network

-- the told bytes of a second file, which may be taken
pub record AreToldBytes (told : List ℕ → Option (List ℕ)) (file bytes : List ℕ) : Type 0 where
  pub told_so : told file ≡ Some bytes
  pub few : length bytes ≤ file_limit
