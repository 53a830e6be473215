-- What holds of all that is read.
use Rattle.std.proofs.Common.{◌≡◌, ◌<◌, ◌+◌, ◌^◌, ◌∷◌, [], All, Bool, Err, IfOk, IfSome, List, None, Ok, Option, Result, Some, if◌then◌else◌, not, refl, subst, true, false, ℕ}
use Rattle.std.specs.Str.{bytes_eq}
use Rattle.std.proofs.lemmas.List.Elements.{All-cons, All-filter, All-head, All-nil, All-tail}
use Rattle.serde_json.specs.Data.{Data}
use Rattle.json_fields.specs.Bundle.{rows_of}
use Rattle.json_fields.specs.FieldFault.{and_then, each_from, each_row, if_there, in_grammar, in_shape}
use Rattle.json_fields.specs.Fields.{addr_of_field, id_if_of, id_in, id_of, list_of, needed, prefix_of_field, text_in, text_of}
use Rattle.json_fields.specs.Kept.{each_item, each_kept, each_kept_item, each_kept_of, each_of, first_of_each, firsts_by, those_there, with_another}
use Rattle.json_fields.specs.Paths.{at_member, at_row}
use Rattle.json_fields.specs.declared.fault.FieldFault.{FieldFault}
use Rattle.prefix_text.proofs.AddrLaws.{addr_of-Some}
use Rattle.prefix_text.proofs.BlockLaws.{prefix_of-Some}
use Rattle.prefix_text.specs.Addr.{addr_of}
use Rattle.prefix_text.specs.Block.{Block, last_of, prefix_of}
use Rattle.vpc_model.specs.Id.{is_id}

-- ---- one after another

pub read_then : {A B : Type 0} (r : Result A FieldFault) (f : A → Result B FieldFault) (P : A → Type 0) (Q : B → Type 0) → IfOk r P
    → ((a : A) → P a → IfOk (f a) Q) → IfOk (and_then r f) Q
read_then (Ok a) f P Q is leads = leads a is
read_then (Err fault) f P Q is leads = tt

-- whatever was read before
pub any_then : {A B : Type 0} (r : Result A FieldFault) (f : A → Result B FieldFault) (Q : B → Type 0) → ((a : A) → IfOk (f a) Q)
    → IfOk (and_then r f) Q
any_then (Ok a) f Q leads = leads a
any_then (Err fault) f Q leads = tt

-- ---- fields

pub there_then : {A B : Type 0} (f : A → Result B FieldFault) (o : Option A) (P : B → Type 0) → ((a : A) → IfOk (f a) P)
    → IfOk (if_there f o) (λ b. IfSome b P)
there_then f None P leads = tt
there_then f (Some a) P leads = read_then (f a) (λ b. Ok (Some b)) P (λ b. IfSome b P) (leads a) (λ b is. is)

grammar_then : {A : Type 0} (path : List ℕ) (o : Option A) (P : A → Type 0) → ((a : A) → o ≡ Some a → P a) → IfOk (in_grammar path o) P
grammar_then path None P leads = tt
grammar_then path (Some a) P leads = leads a refl

shape_then : {A : Type 0} (path : List ℕ) (o : Option A) (P : A → Type 0) → IfSome o P → IfOk (in_shape path o) P
shape_then path None P is = tt
shape_then path (Some a) P is = is

-- a text by a grammar
text_read : {A : Type 0} (grammar : List ℕ → Option A) (P : A → Type 0) (row : Data) (path field : List ℕ)
    → ((text : List ℕ) (a : A) → grammar text ≡ Some a → P a) → IfOk (text_in grammar row path field) (λ o. IfSome o P)
text_read grammar P row path field leads =
    any_then (text_of row path field) (if_there (λ text. in_grammar (at_member path field) (grammar text))) (λ o. IfSome o P)
    (λ told. there_then (λ text. in_grammar (at_member path field) (grammar text)) told P
    (λ text. grammar_then (at_member path field) (grammar text) P (leads text)))

needed_read : {A : Type 0} (read : Data → List ℕ → List ℕ → Result (Option A) FieldFault) (P : A → Type 0) (row : Data)
    (path field : List ℕ)
    → IfOk (read row path field) (λ o. IfSome o P) → IfOk (needed read row path field) P
needed_read read P row path field is =
    read_then (read row path field) (in_shape (at_member path field)) (λ o. IfSome o P) P is
    (λ o some. shape_then (at_member path field) o P some)

-- an id
abbrev pub IsId : List ℕ → Type 0
IsId id = is_id id ≡ true

id_is : (text id : List ℕ) → id_in text ≡ Some id → IsId id
id_is text id is = by (is_id text) refl is
  where
    by : (b : Bool) → is_id text ≡ b → (if b then Some text else None) ≡ Some id → IsId id
    by true visible same = let one : text ≡ id = cc in subst IsId one visible
    by false visible same = absurd (cc)

pub id_if_read : (row : Data) (path field : List ℕ) → IfOk (id_if_of row path field) (λ o. IfSome o IsId)
id_if_read row path field = text_read id_in IsId row path field id_is

pub id_read : (row : Data) (path field : List ℕ) → IfOk (id_of row path field) IsId
id_read row path field = needed_read id_if_of IsId row path field (id_if_read row path field)

-- an address
abbrev pub IsAddress : ℕ → Type 0
IsAddress a = a < 2 ^ 32

pub addr_if_read : (row : Data) (path field : List ℕ) → IfOk (addr_of_field row path field) (λ o. IfSome o IsAddress)
addr_if_read row path field = text_read addr_of IsAddress row path field (λ text a is. let read = addr_of-Some text a is in read.1)

pub addr_read : (row : Data) (path field : List ℕ) → IfOk (needed addr_of_field row path field) IsAddress
addr_read row path field = needed_read addr_of_field IsAddress row path field (addr_if_read row path field)

-- a block of addresses of 32 bits
abbrev pub FitsBlock : Block → Type 0
FitsBlock b = last_of b < 2 ^ 32

pub prefix_read : (row : Data) (path field : List ℕ) → IfOk (needed prefix_of_field row path field) FitsBlock
prefix_read row path field =
    needed_read prefix_of_field FitsBlock row path field
    (text_read prefix_of FitsBlock row path field (λ text b is. let read = prefix_of-Some text b is in read.1.fits))

-- ---- rows

each_from_read : {A : Type 0} (read : ℕ → Data → Result A FieldFault) (P : A → Type 0) (k : ℕ) (rows : List Data)
    → ((n : ℕ) (row : Data) → IfOk (read n row) P)
    → IfOk (each_from read k rows) (All P)
each_from_read read P k [] leads = All-nil P
each_from_read {A = A} read P k (row ∷ rows) leads =
    read_then (read k row) (λ a. and_then (each_from read (k + 1) rows) (λ others. Ok (a ∷ others))) P (All P) (leads k row)
    (λ a is. read_then (each_from read (k + 1) rows) (λ others. Ok (a ∷ others)) (All P) (All P) (each_from_read read P (k + 1) rows leads)
    (λ others all. All-cons P a others is all))

pub each_of_read : {A : Type 0} (read : Data → List ℕ → Result A FieldFault) (P : A → Type 0) (bundle : Data) (name : List ℕ)
    → ((row : Data) (path : List ℕ) → IfOk (read row path) P) → IfOk (each_of read bundle name) (All P)
each_of_read read P bundle name leads =
    any_then (rows_of bundle name) (each_row read name) (All P)
    (λ rows. each_from_read (λ k row. read row (at_row name k)) P 0 rows (λ n row. leads row (at_row name n)))

pub each_item_read : {A : Type 0} (read : Data → List ℕ → Result A FieldFault) (P : A → Type 0) (row : Data) (path field : List ℕ)
    → ((item : Data) (at : List ℕ) → IfOk (read item at) P) → IfOk (each_item read row path field) (All P)
each_item_read read P row path field leads =
    any_then (list_of row path field) (each_row read (at_member path field)) (All P)
    (λ rows. each_from_read (λ k item. read item (at_row (at_member path field) k)) P 0 rows
    (λ n item. leads item (at_row (at_member path field) n)))

-- rows of which some are dropped
pub kept_all : {A : Type 0} (P : A → Type 0) (rows : List (Option A)) → All (λ o. IfSome o P) rows → All P (those_there rows)
kept_all P [] all = All-nil P
kept_all P (None ∷ rows) all = kept_all P rows (All-tail (λ o. IfSome o P) None rows all)
kept_all P (Some a ∷ rows) all =
    All-cons P a (those_there rows) (All-head (λ o. IfSome o P) (Some a) rows all)
    (kept_all P rows (All-tail (λ o. IfSome o P) (Some a) rows all))

kept_read : {A : Type 0} (read : Data → List ℕ → Result (Option A) FieldFault) (P : A → Type 0) (name : List ℕ) (rows : List Data)
    → ((row : Data) (path : List ℕ) → IfOk (read row path) (λ o. IfSome o P)) → IfOk (each_kept read name rows) (All P)
kept_read read P name rows leads =
    read_then (each_row read name rows) (λ all. Ok (those_there all)) (All (λ o. IfSome o P)) (All P)
    (each_from_read (λ k row. read row (at_row name k)) (λ o. IfSome o P) 0 rows (λ n row. leads row (at_row name n)))
    (λ all each. kept_all P all each)

pub each_kept_of_read : {A : Type 0} (read : Data → List ℕ → Result (Option A) FieldFault) (P : A → Type 0) (bundle : Data) (name : List ℕ)
    → ((row : Data) (path : List ℕ) → IfOk (read row path) (λ o. IfSome o P)) → IfOk (each_kept_of read bundle name) (All P)
each_kept_of_read read P bundle name leads =
    any_then (rows_of bundle name) (each_kept read name) (All P) (λ rows. kept_read read P name rows leads)

pub each_kept_item_read : {A : Type 0} (read : Data → List ℕ → Result (Option A) FieldFault) (P : A → Type 0) (row : Data)
    (path field : List ℕ)
    → ((item : Data) (at : List ℕ) → IfOk (read item at) (λ o. IfSome o P)) → IfOk (each_kept_item read row path field) (All P)
each_kept_item_read read P row path field leads =
    any_then (list_of row path field) (each_kept read (at_member path field)) (All P)
    (λ rows. kept_read read P (at_member path field) rows leads)

-- the first rows of their ids
pub firsts_all : {A : Type 0} (P : A → Type 0) (id : A → List ℕ) (rows : List A) → All P rows → All P (first_of_each id rows)
firsts_all P id [] all = All-nil P
firsts_all P id (row ∷ rows) all =
    let others = firsts_by bytes_eq id rows in
    All-cons P row (with_another bytes_eq id (id row) others) (All-head P row rows all)
    (All-filter (λ x. not (bytes_eq (id x) (id row))) P others (firsts_all P id rows (All-tail P row rows all)))
