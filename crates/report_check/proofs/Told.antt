-- What a comparison of texts tells.
use Rattle.std.proofs.Common.{◌&&◌, ◌≡◌, ◌≢◌, ◌∙◌, Bool, List, None, Option, Some, ap, false, if◌then◌else◌, refl, sym, true, ℕ}
use Rattle.std.specs.Prelude.{bytes_eq}
use Rattle.std.proofs.lemmas.Bool.{and_from, and_parts}
use Rattle.vpc_base.proofs.Bytes.{bytes_self, same_bytes}
use Rattle.vpc_base.proofs.Options.{if_some}
use Rattle.header_boxes.proofs.Held.{holds_low, valid_if_within}
use Rattle.header_boxes.specs.Boxes.{IsWithin, holds, low_of}
use Rattle.box_walk.proofs.Texts.{ending_of-stop, words_have_texts}
use Rattle.box_walk.specs.Asking.{IsAsking, asked_by, word_of}
use Rattle.vpc_laws.specs.Types.{Box5, Description, End, Header, Phase, Stop, StopName, StopText}
use Rattle.vpc_model.specs.Accepted.{IsAccepted}
use Rattle.vpc_model.specs.Appliances.{appliances_of}
use Rattle.vpc_model.specs.Names.{name_text}
use Rattle.vpc_model.specs.Sound.{has_text}
use Rattle.vpc_model.specs.Verdict.{Homes, verdict_by}
use Rattle.vpc_model.proofs.Names.{name_text_tells}
use Rattle.vpc_model.specs.declared.outcomes.Phase.TheVariants as phases
use Rattle.report_check.specs.Agreement.{agreed, agreement_of, is_phase, is_text, told_of}

-- ---- tests

some_if : (b : Bool) → b ≡ true → (if b then Some (tt {0}) else None) ≡ Some (tt {0})
some_if true is = refl
some_if false is = absurd (cc)

-- ---- texts

phase_tells : (a b : Phase) → is_phase a b ≡ true → a ≡ b
phase_tells phases.Request phases.Request is = refl
phase_tells phases.Reply phases.Reply is = refl
phase_tells phases.Request phases.Reply is = absurd (cc)
phase_tells phases.Reply phases.Request is = absurd (cc)

is_phase-self : (a : Phase) → is_phase a a ≡ true
is_phase-self phases.Request = refl
is_phase-self phases.Reply = refl

abbrev text_of : Phase → StopName → List ℕ → List ℕ → StopText
text_of phase name id rule = record { phase = phase; name = name; id = id; rule = rule }

same_text : (a b : StopText) → a.phase ≡ b.phase → a.name ≡ b.name → a.id ≡ b.id → a.rule ≡ b.rule → a ≡ b
same_text a b phase name id rule =
    ap (λ (p : Phase). text_of p a.name a.id a.rule) phase
    ∙ (ap (λ (n : StopName). text_of b.phase n a.id a.rule) name
    ∙ (ap (λ (t : List ℕ). text_of b.phase b.name t a.rule) id ∙ ap (λ (t : List ℕ). text_of b.phase b.name b.id t) rule))

text_tells : (a b : StopText) → is_text a b ≡ true → a ≡ b
text_tells a b is =
    let first = and_parts (is_phase a.phase b.phase) (bytes_eq (name_text a.name) (name_text b.name) && (bytes_eq a.id b.id && bytes_eq a.rule b.rule)) is in
    let second = and_parts (bytes_eq (name_text a.name) (name_text b.name)) (bytes_eq a.id b.id && bytes_eq a.rule b.rule) first.1 in
    let third = and_parts (bytes_eq a.id b.id) (bytes_eq a.rule b.rule) second.1 in
    same_text a b (phase_tells a.phase b.phase first.0)
    (name_text_tells a.name b.name (same_bytes (name_text a.name) (name_text b.name) second.0)) (same_bytes a.id b.id third.0) (same_bytes a.rule b.rule third.1)

is_text-self : (a : StopText) → is_text a a ≡ true
is_text-self a =
    and_from (is_phase a.phase a.phase) _ (is_phase-self a.phase)
    (and_from (bytes_eq (name_text a.name) (name_text a.name)) _ (bytes_self (name_text a.name))
    (and_from (bytes_eq a.id a.id) (bytes_eq a.rule a.rule) (bytes_self a.id) (bytes_self a.rule)))

-- ---- the word of a text

pub agreed-self : (text : StopText) → agreed text (Some text) ≡ Some (tt {0})
agreed-self text = some_if (is_text text text) (is_text-self text)

pub agreed-other : (text told : StopText) → text ≢ told → agreed text (Some told) ≡ None
agreed-other text told other = none_if (is_text text told) (λ is. other (text_tells text told is))
  where
    none_if : (b : Bool) → b ≢ true → (if b then Some (tt {0}) else None) ≡ None
    none_if true other = absurd (other refl)
    none_if false other = refl

-- another text is told, or none
pub agreed-none : (text : StopText) (o : Option StopText) → agreed text o ≡ None → o ≢ Some text
agreed-none text o none is = let some : agreed text o ≡ Some (tt {0}) = ap (agreed text) is ∙ agreed-self text in absurd (cc)

-- this text is told
pub agreed-some : (text : StopText) (o : Option StopText) → agreed text o ≢ None → o ≡ Some text
agreed-some text None some = absurd (some refl)
agreed-some text (Some told) some = ap Some (sym (text_tells text told (if_some (is_text text told) some)))

-- ---- what is told of the headers of a part

-- it is told by the text, or isn't, of all of them
pub agreement_of-part : (d : Description) (homes : Homes) (goal : End) (text : StopText) (part : Box5) (word : Option (Phase × Stop))
    → ((h : Header) → holds h part ≡ true → word_of (asked_by d homes goal) h ≡ word)
    → (h : Header) → holds h part ≡ true
    → agreement_of d homes goal text h ≡ agreed text (told_of d word)
unfolding agreement_of
agreement_of-part d homes goal text part word all h held =
    ap (agreed text) (ending_of-stop d (verdict_by d (appliances_of d) homes goal h) ∙ ap (told_of d) (all h held))

-- what is told of them has a text
pub part-text : (d : Description) (homes : Homes) (goal : End) (part sides : Box5) (word : Option (Phase × Stop))
    → IsAccepted d → IsAsking (asked_by d homes goal) → IsWithin part sides
    → ((h : Header) → holds h part ≡ true → word_of (asked_by d homes goal) h ≡ word)
    → (told : Phase × Stop) → word ≡ Some told → has_text d told.1 ≡ true
part-text d homes goal part sides word accepted asking within all told is =
    words_have_texts (asked_by d homes goal) (low_of part) told.0 told.1 accepted asking
    (all (low_of part) (holds_low part (valid_if_within part sides within)) ∙ is)
