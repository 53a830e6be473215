-- Lines and words of printed texts.
use Rattle.std.proofs.Common.{◌≡◌, ◌≢◌, ◌∙◌, ◌<◌, ◌^◌, ◌==◌, ◌++◌, ◌∷◌, [], All, List, ap, arith, codes, decimal, false, get_or, lit<, ne_eqb, refl, sym, true, ℕ}
use Rattle.std.proofs.lemmas.Bool.{and_parts, leb-true}
use Rattle.std.proofs.lemmas.List.Elements.{All-append, All-cons, All-from_get_or, All-nil}
use Rattle.std.proofs.lemmas.List.Splits.{slice_split_at, slice_split_none}
use Rattle.std.proofs.lemmas.List.Sums.{AllPass-from_list_all}
use Rattle.prefix_text.proofs.AddrLaws.{All-addr_text}
use Rattle.prefix_text.proofs.NumberLaws.{All-decimal}
use Rattle.prefix_text.proofs.RangeLaws.{All-range_text}
use Rattle.prefix_text.specs.Range.{range_text}
use Rattle.block_report.specs.Reports.{addresses_text}
use Rattle.query_words.specs.Events.{words_of}
use Rattle.vpc_model.specs.Id.{is_id, is_visible}
use Rattle.report_reader.specs.Reports.{pieces_of}

-- a word has no blank and no newline
pub record IsWord (w : List ℕ) : Type 0 where
  pub no_blank : All (λ x. (x == 32) ≡ false) w
  pub no_newline : All (λ x. (x == 10) ≡ false) w

abbrev pub AreWords : List (List ℕ) → Type 0
AreWords [] = Unit {0}
AreWords (w ∷ ws) = IsWord w × AreWords ws

-- words with a blank between each two
abbrev pub joined : List ℕ → List (List ℕ) → List ℕ
joined w [] = w
joined w (v ∷ vs) = w ++ 32 ∷ joined v vs

-- ---- lines

pub words_of-joined : (w : List ℕ) (ws : List (List ℕ)) → IsWord w → AreWords ws → words_of (joined w ws) ≡ w ∷ ws
words_of-joined w [] h hs = slice_split_none _ w h.no_blank
words_of-joined w (v ∷ vs) h hs =
    slice_split_at _ w 32 (joined v vs) h.no_blank refl ∙ ap (λ (parts : List (List ℕ)). w ∷ parts) (words_of-joined v vs hs.0 hs.1)

no_newline-joined : (w : List ℕ) (ws : List (List ℕ)) → IsWord w → AreWords ws → All (λ x. (x == 10) ≡ false) (joined w ws)
no_newline-joined w [] h hs = h.no_newline
no_newline-joined w (v ∷ vs) h hs =
    let apart = λ (x : ℕ). (x == 10) ≡ false in
    All-append apart _ _ h.no_newline (All-cons apart 32 _ refl (no_newline-joined v vs hs.0 hs.1))

pub pieces_of-line : (w : List ℕ) (ws : List (List ℕ)) (rest : List ℕ) → IsWord w → AreWords ws → pieces_of (joined w ws ++ 10 ∷ rest) ≡ joined w ws ∷ pieces_of rest
pieces_of-line w ws rest h hs = slice_split_at _ (joined w ws) 10 rest (no_newline-joined w ws h hs) refl

-- ---- words

apart_from : (w : List ℕ) (c : ℕ) → is_id w ≡ true → c < 33 → All (λ x. (x == c) ≡ false) w
apart_from w c id low =
    let visible = AllPass-from_list_all is_visible w (and_parts _ _ (and_parts _ _ id).1).1 in
    All-from_get_or (λ x. (x == c) ≡ false) w 0 λ i h.
    let least = leb-true 33 (get_or w i 0) (and_parts _ _ (visible i 0 h)).0 in
    let other : get_or w i 0 ≢ c = λ same. omega (arith, least, same) in
    ne_eqb (get_or w i 0) c other

pub IsWord-id : (w : List ℕ) → is_id w ≡ true → IsWord w
IsWord-id w id = record { no_blank = apart_from w 32 id (lit< tt); no_newline = apart_from w 10 id (lit< tt) }

pub IsWord-decimal : (n : ℕ) → n < 10 ^ 10 → IsWord (decimal n)
IsWord-decimal n short = record { no_blank = All-decimal n 32 (omega arith) (lit< tt); no_newline = All-decimal n 10 (omega arith) (lit< tt) }

pub IsWord-range_text : (r : ℕ × ℕ) → r.0 < 2 ^ 16 → r.1 < 2 ^ 16 → IsWord (range_text r)
IsWord-range_text r first last = record {
  no_blank = All-range_text r 32 first last (lit< tt) (omega arith);
  no_newline = All-range_text r 10 first last (lit< tt) (omega arith);
}

apart_addresses : (r : ℕ × ℕ) (c : ℕ) → r.0 < 2 ^ 32 → r.1 < 2 ^ 32 → c < 48 → c ≢ 46 → c ≢ 45 → All (λ x. (x == c) ≡ false) (addresses_text r)
apart_addresses r c first last other no_dot no_dash =
    let apart = λ (x : ℕ). (x == c) ≡ false in
    let differs : 45 ≡ c → ⊥ = λ same. no_dash (sym same) in
    let dash : All apart (codes "-") = All-cons apart 45 [] (ne_eqb 45 c differs) (All-nil apart) in
    All-append apart _ _ (All-append apart _ _ (All-addr_text r.0 c first other no_dot) dash) (All-addr_text r.1 c last other no_dot)

pub IsWord-addresses_text : (r : ℕ × ℕ) → r.0 < 2 ^ 32 → r.1 < 2 ^ 32 → IsWord (addresses_text r)
IsWord-addresses_text r first last = record {
  no_blank = apart_addresses r 32 first last (lit< tt) (omega arith) (omega arith);
  no_newline = apart_addresses r 10 first last (lit< tt) (omega arith) (omega arith);
}
