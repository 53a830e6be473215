-- Parts of a text that end at a byte.
use Rattle.std.proofs.Common.{◌+◌, ◌++◌, ◌-◌, ◌<◌, ◌==◌, ◌≡◌, ◌∙◌, ◌∷◌, [], All, Bool, List, None, Some, ap, arith, cond, drop, false, get_or, length, length-append, position, refl, suc, sym, take, true, ℕ}
use Rattle.std.proofs.Math.Seq.{take-append-add}
use Rattle.std.specs.List.{slice_split}
use Rattle.std.proofs.lemmas.Bool.{cond-false, cond-true, eq-eqb, eqb-true, ne_eqb}
use Rattle.std.proofs.lemmas.Grind.{common_steps}
use Rattle.std.proofs.lemmas.List.{drop_more, get_or-append-add, take-append-drop, take_at}
use Rattle.std.proofs.lemmas.List.Quantifiers.{position-Some}
use Rattle.std.proofs.lemmas.List.Splits.{slice_split_at, slice_split_none}
use Rattle.std.proofs.lemmas.Option.{slice_get-get_or}
use Rattle.vpc_base.proofs.Positions.{position-None}
use Rattle.query_words.specs.Events.{lines_of, without_last_newline}

-- a text that has no such byte
abbrev pub IsClear : ℕ → List ℕ → Type 0
IsClear byte text = All (λ c. (c == byte) ≡ false) text

pub clear-before : (byte : ℕ) (text : List ℕ) (k : ℕ) → position (λ c. c == byte) text ≡ Some k → IsClear byte (take k text)
clear-before byte text k e = λ j d below.
    let found = position-Some (λ c. c == byte) text k d e in
    let less : j < k = grind (arith, common_steps) in
    let same : get_or (take k text) j d ≡ get_or text j d = grind (arith, common_steps) in
    ap (λ c. c == byte) same ∙ found.2 j less

pub cut-whole : (byte : ℕ) (text : List ℕ) (k : ℕ) → position (λ c. c == byte) text ≡ Some k → text ≡ take k text ++ byte ∷ drop (k + 1) text
cut-whole byte text k e =
    let found = position-Some (λ c. c == byte) text k 0 e in
    sym (take-append-drop k text) ∙ ap (λ rest. take k text ++ rest) (drop_more text k 0 found.0 ∙ ap (λ c. c ∷ drop (k + 1) text) (eqb-true (get_or text k 0) byte found.1))

pub cut-first : (byte : ℕ) (text : List ℕ) (k : ℕ) → position (λ c. c == byte) text ≡ Some k
    → slice_split (λ c. c == byte) text ≡ take k text ∷ slice_split (λ c. c == byte) (drop (k + 1) text)
cut-first byte text k e =
    ap (slice_split (λ c. c == byte)) (cut-whole byte text k e)
    ∙ slice_split_at (λ c. c == byte) (take k text) byte (drop (k + 1) text) (clear-before byte text k e) (eq-eqb byte byte refl)

pub clear-all : (byte : ℕ) (text : List ℕ) → position (λ c. c == byte) text ≡ None → IsClear byte text
clear-all byte text e = λ j d below. position-None (λ c. c == byte) text j (get_or text j d) e (slice_get-get_or text j d below)

pub cut-last : (byte : ℕ) (text : List ℕ) → position (λ c. c == byte) text ≡ None → slice_split (λ c. c == byte) text ≡ text ∷ []
cut-last byte text e = slice_split_none (λ c. c == byte) text (clear-all byte text e)

-- ---- lines

lines-some : (text : List ℕ) → 0 < length text → lines_of text ≡ slice_split (λ c. c == 10) (without_last_newline text)
lines-some text some =
    cond-false (length text == 0) [] (slice_split (λ c. c == 10) (without_last_newline text)) (ne_eqb (length text) 0 (λ none. omega arith))

-- a text without a newline is one line
pub lines-last : (text : List ℕ) → IsClear 10 text → 0 < length text → lines_of text ≡ text ∷ []
lines-last text clear some =
    let n : ℕ = length text - 1 in
    let below : n < length text = omega arith in
    let whole : without_last_newline text ≡ text = cond-false (get_or text n 0 == 10) (take n text) text (clear n 0 below) in
    lines-some text some ∙ ap (slice_split (λ c. c == 10)) whole ∙ slice_split_none (λ c. c == 10) text clear

-- the newline at the end of a text is that of its rest
last-newline : (line : List ℕ) (r : ℕ) (rs : List ℕ) → without_last_newline (line ++ 10 ∷ r ∷ rs) ≡ line ++ 10 ∷ without_last_newline (r ∷ rs)
last-newline line r rs =
    let text : List ℕ = line ++ 10 ∷ r ∷ rs in
    let n : ℕ = length text - 1 in
    let ends : Bool = get_or (r ∷ rs) (length rs) 0 == 10 in
    let long = length-append line (10 ∷ r ∷ rs) in
    let at : n ≡ length line + suc (length rs) = omega arith in
    let end : get_or text n 0 ≡ get_or (r ∷ rs) (length rs) 0 = ap (λ k. get_or text k 0) at ∙ get_or-append-add line (10 ∷ r ∷ rs) (suc (length rs)) 0 in
    let front : take n text ≡ line ++ 10 ∷ take (length rs) (r ∷ rs) = ap (λ k. take k text) at ∙ take-append-add line (10 ∷ r ∷ rs) (suc (length rs)) in
    let last : length rs ≡ suc (length rs) - 1 = omega arith in
    ap (λ c. cond (c == 10) (take n text) text) end
    ∙ ap (λ t. cond ends t text) front
    ∙ by ends
    ∙ ap (λ k. line ++ 10 ∷ cond (get_or (r ∷ rs) k 0 == 10) (take k (r ∷ rs)) (r ∷ rs)) last
  where
    by : (b : Bool) → cond b (line ++ 10 ∷ take (length rs) (r ∷ rs)) (line ++ 10 ∷ r ∷ rs) ≡ line ++ 10 ∷ cond b (take (length rs) (r ∷ rs)) (r ∷ rs)
    by true = refl
    by false = refl

-- a line, and the lines behind its newline
pub lines-first : (line rest : List ℕ) → IsClear 10 line → lines_of (line ++ 10 ∷ rest) ≡ line ∷ lines_of rest
lines-first line [] clear =
    let text : List ℕ = line ++ 10 ∷ [] in
    let n : ℕ = length text - 1 in
    let long = length-append line (10 ∷ []) in
    let at : n ≡ length line + 0 = omega arith in
    let end : get_or text n 0 ≡ 10 = ap (λ k. get_or text k 0) at ∙ get_or-append-add line (10 ∷ []) 0 0 in
    let whole : without_last_newline text ≡ line = cond-true (get_or text n 0 == 10) (take n text) text (eq-eqb (get_or text n 0) 10 end) ∙ take_at line (10 ∷ []) n (omega arith) in
    lines-some text (omega arith) ∙ ap (slice_split (λ c. c == 10)) whole ∙ slice_split_none (λ c. c == 10) line clear
lines-first line (r ∷ rs) clear =
    let long = length-append line (10 ∷ r ∷ rs) in
    lines-some (line ++ 10 ∷ r ∷ rs) (omega arith)
    ∙ ap (slice_split (λ c. c == 10)) (last-newline line r rs)
    ∙ slice_split_at (λ c. c == 10) line 10 (without_last_newline (r ∷ rs)) clear refl
    ∙ ap (λ ls. line ∷ ls) (sym (lines-some (r ∷ rs) (omega arith)))

-- an empty text has no lines
pub lines-none : (text : List ℕ) → length text ≡ 0 → lines_of text ≡ []
lines-none text none = cond-true (length text == 0) [] (slice_split (λ c. c == 10) (without_last_newline text)) (eq-eqb (length text) 0 none)
