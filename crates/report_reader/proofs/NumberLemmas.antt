-- Texts that are read as numbers, compared with decimals.
use Rattle.std.proofs.Common.{◌≡◌, ◌==◌, ◌<◌, ◌^◌, Bool, List, None, Option, Some, arith, decimal, eq-eqb, eqb-true, false, refl, subst, sym, true, ℕ}
use Rattle.std.specs.Str.{bytes_eq}
use Rattle.vpc_base.proofs.Bytes.{bytes_self, same_bytes}
use Rattle.prefix_text.specs.Number.{number_of}
use Rattle.prefix_text.proofs.NumberLaws.{number_of-Some, number_of-decimal}

some_is : (o : Option ℕ) (m n : ℕ) → o ≡ Some m → o ≡ Some n → m ≡ n
some_is o m n one other = cc

-- the decimal of a number reads as it
reads_as : (text : List ℕ) (n : ℕ) → n < 10 ^ 10 → bytes_eq text (decimal n) ≡ true → number_of text n ≡ Some n
reads_as text n short same =
    subst (λ (t : List ℕ). number_of t n ≡ Some n) (sym (same_bytes text (decimal n) same)) (number_of-decimal n n (omega arith) short)

read_as : (text : List ℕ) (m n : ℕ) → number_of text n ≡ Some m → (m == n) ≡ true → bytes_eq text (decimal n) ≡ true
read_as text m n read same =
    subst (λ (t : List ℕ). bytes_eq t (decimal n) ≡ true) (sym (number_of-Some text n m read).0)
    (subst (λ (k : ℕ). bytes_eq (decimal k) (decimal n) ≡ true) (sym (eqb-true m n same)) (bytes_self (decimal n)))

-- two tests, each of which is true where the other is
alike : (a b : Bool) → (a ≡ true → b ≡ true) → (b ≡ true → a ≡ true) → a ≡ b
alike true b to from = sym (to refl)
alike false true to from = from refl
alike false false to from = refl

-- a text that reads as a number is the decimal of one where they are equal
pub is_read : (text : List ℕ) (m n : ℕ) → n < 10 ^ 10 → number_of text n ≡ Some m → (m == n) ≡ bytes_eq text (decimal n)
is_read text m n short read =
    alike (m == n) (bytes_eq text (decimal n)) (read_as text m n read) (λ same. eq-eqb m n (some_is (number_of text n) m n read (reads_as text n short same)))

none_if : (o : Option ℕ) (n : ℕ) (b : Bool) → o ≡ None → (b ≡ true → o ≡ Some n) → false ≡ b
none_if o n false none read = refl
none_if o n true none read =
    let some : o ≡ Some n = read refl in
    absurd (cc)

-- a text that doesn't read as one up to this isn't its decimal
pub is_unread : (text : List ℕ) (n : ℕ) → n < 10 ^ 10 → number_of text n ≡ None → false ≡ bytes_eq text (decimal n)
is_unread text n short none = none_if (number_of text n) n (bytes_eq text (decimal n)) none (reads_as text n short)
