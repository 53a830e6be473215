-- Words without blanks, which are no longer than ids.
use Rattle.std.proofs.Common.{◌≡◌, ◌≤◌, ◌==◌, [], All, List, arith, false, length, true, ℕ}
use Rattle.std.proofs.lemmas.Bool.{and_parts, leb-true}
use Rattle.std.proofs.lemmas.List.Elements.{All-nil}
use Rattle.report_reader.proofs.Printed.{IsWord, IsWord-id}
use Rattle.vpc_model.specs.Id.{is_id}

pub record IsShortWord (w : List ℕ) : Type 0 where
  pub no_blank : All (λ c. (c == 32) ≡ false) w
  pub no_newline : All (λ c. (c == 10) ≡ false) w
  pub short : length w ≤ 256

pub short_word : (w : List ℕ) → IsWord w → length w ≤ 256 → IsShortWord w
short_word w word short = record { no_blank = word.no_blank; no_newline = word.no_newline; short = short }

pub IsShortWord-id : (w : List ℕ) → is_id w ≡ true → IsShortWord w
IsShortWord-id w id =
    short_word w (IsWord-id w id) (leb-true (length w) 256 (and_parts _ _ (and_parts _ _ id).1).0)

pub IsShortWord-nil : IsShortWord []
IsShortWord-nil = record { no_blank = All-nil (λ c. (c == 32) ≡ false); no_newline = All-nil (λ c. (c == 10) ≡ false); short = omega arith }
