-- Connections whose headers are images, and what is asked of them.
use Rattle.std.specs.Prelude.{All, Bool, List, Option, map, ℕ}
use Rattle.box_images.specs.Answers.{Answers, AnswersImage}
use Rattle.box_images.specs.Images.{IsImageOfAnswer, IsImageOfOpen, header_at}
use Rattle.box_images.specs.declared.images.Image.{Image}
use Rattle.box_images.specs.declared.images.Part.{Part}
use Rattle.conn_tracking.specs.declared.on_images.ImageEntry.{ImageEntry}
use Rattle.cut_laws.specs.Dividing.{DivideAddresses}
use Rattle.vpc_base.specs.Header.{reply_of}
use Rattle.vpc_model.specs.Connections.{Connection, is_header, is_tracked, same_header}
use Rattle.vpc_model.specs.Types.{Dir, Header}
use Rattle.vpc_model.specs.declared.numbers.EniNo.{EniNo}

-- the connection of an entry at a header of the request
abbrev pub connection_at : Header → ImageEntry → Connection
connection_at h e = record { eni = e.eni; dir = e.dir; header = header_at e.header h }

-- those of all entries
abbrev pub connections_at : Header → List ImageEntry → List Connection
connections_at h entries = map (connection_at h) entries

-- ---- what a walk makes of requests, over the addresses that it may put into them

-- two answers
pub record AreAnswers (addresses : List ℕ) (i j : Image) : Type 0 where
  pub one : IsImageOfAnswer addresses i
  pub other : IsImageOfAnswer addresses j

-- an answer and an open
pub record AreAnswerAndOpen (addresses : List ℕ) (i opened : Image) : Type 0 where
  pub answer : IsImageOfAnswer addresses i
  pub origin : IsImageOfOpen addresses opened

-- an answer, and the opens that made connections
pub record AreAnswerAndOpens (addresses : List ℕ) (i : Image) (entries : List ImageEntry) : Type 0 where
  pub answer : IsImageOfAnswer addresses i
  pub opens : All (λ e. IsImageOfOpen addresses e.header) entries

-- ---- what is told; cuts before and after the addresses, with those of every network, divide enough

-- the reply of an open
abbrev pub GivesReply : List ℕ → Image → Part (Option Image) → Type 0
GivesReply addresses opened x = AnswersImage (DivideAddresses addresses) (λ h. reply_of (header_at opened h)) opened.part x

-- whether two headers are the same
abbrev pub TellsSame : List ℕ → Image → Image → Part Bool → Type 0
TellsSame addresses i j x = Answers (DivideAddresses addresses) (λ h. same_header (header_at i h) (header_at j h)) i.part x

-- whether a header is the reply of an open
abbrev pub TellsReply : List ℕ → Image → Image → Part Bool → Type 0
TellsReply addresses i opened x =
    Answers (DivideAddresses addresses) (λ h. is_header (header_at i h) (reply_of (header_at opened h))) i.part x

-- whether a header answers one of the connections
abbrev pub TellsTracked : List ℕ → List ImageEntry → EniNo → Dir → Image → Part Bool → Type 0
TellsTracked addresses entries eni dir i x =
    Answers (DivideAddresses addresses) (λ h. is_tracked (connections_at h entries) eni dir (header_at i h)) i.part x
