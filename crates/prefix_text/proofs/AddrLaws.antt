-- Addresses and their texts.
use Rattle.std.proofs.Common.{◌≡◌, ◌≢◌, ℕ, ◌/◌, ◌%◌, ◌^◌, ◌<◌, ◌≤◌, ◌==◌, false, List, [], ◌∷◌, ◌++◌, length, get_or, Option, Some, None, decimal, codes, All, refl, sym, ap, ◌∙◌, arith, lit<, ne_eqb, append_assoc, length-append, map, Result, Ok, Err}
use Rattle.std.proofs.lemmas.Option.{none-some, same_Some}
use Rattle.std.proofs.lemmas.Fmt.{length-decimal-le}
use Rattle.std.proofs.lemmas.List.Elements.{All-append, All-cons, All-nil}
use Rattle.std.proofs.lemmas.List.Splits.{slice_split_at, slice_split_none, join_with_byte-slice_split}
use Rattle.std.specs.List.{slice_split, join_with_byte}
use Rattle.std.specs.Net.Text.{dotted_text}
use Rattle.std.specs.Int.{w32, from_be_bytes}
use Rattle.std.specs.Option.{option_map}
use Rattle.std.specs.Result.{result_ok}
use Rattle.std.specs.Net.Addr.{ipv4_bits}
use Rattle.std.specs.Net.Grammar.{IsIpv4Text, Parses}
use Rattle.std.specs.declared.net.ipv4_addr.Ipv4Addr.{Ipv4Addr}
use Rattle.prefix_text.specs.Number.{number_of}
use Rattle.prefix_text.specs.Addr.{addr_at, addr_text, addr_of_octets, addr_of}
use Rattle.prefix_text.proofs.NumberLaws.{number_of-decimal, number_of-Some, All-decimal}

dotted_text-is : (a b c d : ℕ) → dotted_text a b c d ≡ decimal a ++ 46 ∷ (decimal b ++ 46 ∷ (decimal c ++ 46 ∷ decimal d))
dotted_text-is a b c d = simp append_assoc

-- the parts of a dotted text
parts-dotted_text : (a b c d : ℕ) → a < 256 → b < 256 → c < 256 → d < 256 → slice_split (λ x. x == 46) (dotted_text a b c d) ≡ decimal a ∷ decimal b ∷ decimal c ∷ decimal d ∷ []
parts-dotted_text a b c d fa fb fc fd =
    ap (slice_split (λ x. x == 46)) (dotted_text-is a b c d)
    ∙ slice_split_at _ (decimal a) 46 _ (All-decimal a 46 (omega arith) (lit< tt)) refl
    ∙ ap (λ parts. decimal a ∷ parts) (slice_split_at _ (decimal b) 46 _ (All-decimal b 46 (omega arith) (lit< tt)) refl
    ∙ ap (λ parts. decimal b ∷ parts) (slice_split_at _ (decimal c) 46 _ (All-decimal c 46 (omega arith) (lit< tt)) refl
    ∙ ap (λ parts. decimal c ∷ parts) (slice_split_none _ (decimal d) (All-decimal d 46 (omega arith) (lit< tt)))))

pub addr_of-dotted_text : (a b c d : ℕ) → a < 256 → b < 256 → c < 256 → d < 256 → addr_of (dotted_text a b c d) ≡ Some (addr_at a b c d)
addr_of-dotted_text a b c d fa fb fc fd =
    let octet = λ (n : ℕ) (fits : n < 256). number_of-decimal n 255 (omega arith) (omega arith) in
    rw (parts-dotted_text a b c d fa fb fc fd, octet a fa, octet b fb, octet c fc, octet d fd)

-- an address's text has no such byte: no blank, no line end, no dash and no slash
pub All-addr_text : (n c : ℕ) → n < 2 ^ 32 → c < 48 → c ≢ 46 → All (λ x. (x == c) ≡ false) (addr_text n)
All-addr_text n c fits other no_dot =
    let apart = λ (x : ℕ). (x == c) ≡ false in
    let octet = λ (k : ℕ) (small : k < 256). All-decimal k c (omega arith) other in
    let differs : 46 ≡ c → ⊥ = λ same. no_dot (sym same) in
    let dot : All apart (codes ".") = All-cons apart 46 [] (ne_eqb 46 c differs) (All-nil apart) in
    let a = octet (n / 2 ^ 24) (omega arith) in
    let b = octet (n / 2 ^ 16 % 256) (omega arith) in
    let c = octet (n / 2 ^ 8 % 256) (omega arith) in
    let d = octet (n % 256) (omega arith) in
    All-append apart _ _ (All-append apart _ _ (All-append apart _ _ (All-append apart _ _ (All-append apart _ _ (All-append apart _ _ a dot) b) dot) c) dot) d

length-octet-le : (n : ℕ) → n < 256 → length (decimal n) ≤ 3
length-octet-le n small = length-decimal-le 3 n (lit< tt) (omega arith) (omega arith)

pub length-addr_text-le : (n : ℕ) → n < 2 ^ 32 → length (addr_text n) ≤ 15
length-addr_text-le n fits =
    let a = length-octet-le (n / 2 ^ 24) (omega arith) in
    let b = length-octet-le (n / 2 ^ 16 % 256) (omega arith) in
    let c = length-octet-le (n / 2 ^ 8 % 256) (omega arith) in
    let d = length-octet-le (n % 256) (omega arith) in
    simp length-append (omega arith)

-- what is printed reads as what it was
pub addr_of-addr_text : (n : ℕ) → n < 2 ^ 32 → addr_of (addr_text n) ≡ Some n
addr_of-addr_text n fits =
    let whole : addr_at (n / 2 ^ 24) (n / 2 ^ 16 % 256) (n / 2 ^ 8 % 256) (n % 256) ≡ n = omega arith in
    addr_of-dotted_text _ _ _ _ (omega arith) (omega arith) (omega arith) (omega arith) ∙ ap (λ k. Some k) whole

-- the octets of an address
pub record IsOctets (read : List (Option ℕ)) (n : ℕ) : Type 0 where
  pub a : ℕ
  pub b : ℕ
  pub c : ℕ
  pub d : ℕ
  pub value : addr_at a b c d ≡ n
  pub four : read ≡ Some a ∷ Some b ∷ Some c ∷ Some d ∷ []

addr_of_octets-Some : (read : List (Option ℕ)) (n : ℕ) → addr_of_octets read ≡ Some n → IsOctets read n
addr_of_octets-Some (Some a ∷ Some b ∷ Some c ∷ Some d ∷ []) n e = record { a = a; b = b; c = c; d = d; value = same_Some _ n e; four = refl }
addr_of_octets-Some _ n e = absurd (none-some n e)

-- the parts of a text whose numbers are these
spelled_parts : (parts : List (List ℕ)) (a b c d : ℕ) → map (λ part. number_of part 255) parts ≡ Some a ∷ Some b ∷ Some c ∷ Some d ∷ [] → (parts ≡ decimal a ∷ decimal b ∷ decimal c ∷ decimal d ∷ []) × (a < 256) × (b < 256) × (c < 256) × (d < 256)
spelled_parts (p ∷ q ∷ r ∷ s ∷ []) a b c d e =
    let at = λ (i : ℕ). ap (λ xs. get_or xs i None) e in
    let is_a = number_of-Some p 255 a (at 0) in
    let is_b = number_of-Some q 255 b (at 1) in
    let is_c = number_of-Some r 255 c (at 2) in
    let is_d = number_of-Some s 255 d (at 3) in
    (rw (is_a.0, is_b.0, is_c.0, is_d.0), omega (arith, is_a.1), omega (arith, is_b.1), omega (arith, is_c.1), omega (arith, is_d.1))
spelled_parts [] a b c d e = absurd (cc)
spelled_parts (p ∷ []) a b c d e = absurd (cc)
spelled_parts (p ∷ q ∷ []) a b c d e = absurd (cc)
spelled_parts (p ∷ q ∷ r ∷ []) a b c d e = absurd (cc)
spelled_parts (p ∷ q ∷ r ∷ s ∷ t ∷ rest) a b c d e = absurd (cc)

-- a text that reads as an address is dotted
pub record IsAddr (text : List ℕ) (n : ℕ) : Type 0 where
  pub a : ℕ
  pub b : ℕ
  pub c : ℕ
  pub d : ℕ
  pub fit : (a < 256) × (b < 256) × (c < 256) × (d < 256)
  pub value : addr_at a b c d ≡ n
  pub spelled : text ≡ dotted_text a b c d

pub IsAddr-addr_of : (text : List ℕ) (n : ℕ) → addr_of text ≡ Some n → IsAddr text n
IsAddr-addr_of text n e =
    let parts = slice_split (λ c. c == 46) text in
    let h = addr_of_octets-Some (map (λ part. number_of part 255) parts) n e in
    let (spelled, fa, fb, fc, fd) = spelled_parts parts h.a h.b h.c h.d h.four in
    let joined : text ≡ join_with_byte 46 (decimal h.a ∷ decimal h.b ∷ decimal h.c ∷ decimal h.d ∷ []) =
    sym (join_with_byte-slice_split 46 text) ∙ ap (join_with_byte 46) spelled in
    record { a = h.a; b = h.b; c = h.c; d = h.d; fit = (fa, fb, fc, fd); value = h.value; spelled = joined ∙ sym (dotted_text-is h.a h.b h.c h.d) }

-- a text that reads as an address is the address's text
pub addr_of-Some : (text : List ℕ) (n : ℕ) → addr_of text ≡ Some n → (text ≡ addr_text n) × (n < 2 ^ 32)
addr_of-Some text n e =
    let h = IsAddr-addr_of text n e in
    let below : n < 2 ^ 32 = omega (arith, h.value, h.fit) in
    let a : n / 2 ^ 24 ≡ h.a = omega (arith, h.value, h.fit) in
    let b : n / 2 ^ 16 % 256 ≡ h.b = omega (arith, h.value, h.fit) in
    let c : n / 2 ^ 8 % 256 ≡ h.c = omega (arith, h.value, h.fit) in
    let d : n % 256 ≡ h.d = omega (arith, h.value, h.fit) in
    (h.spelled ∙ rw (a, b, c, d), below)

-- what std's parser answers, where a text is an address if it is the dotted text of four octets
pub addr_of-parsed : {E : Type 0} (text : List ℕ) (r : Result Ipv4Addr E) → Parses IsIpv4Text text r → option_map ipv4_bits (result_ok r) ≡ addr_of text
unfolding ipv4_bits
addr_of-parsed text (Ok a) h =
    let bits : ipv4_bits a ≡ addr_at h.a h.b h.c h.d = ap (from_be_bytes w32) h.value ∙ omega arith in
    ap (λ n. Some n) bits ∙ sym (ap addr_of h.spelled ∙ addr_of-dotted_text h.a h.b h.c h.d h.fit.0 h.fit.1 h.fit.2 h.fit.3)
addr_of-parsed text (Err e) h = go (addr_of text) refl
  where
    go : (o : Option ℕ) → addr_of text ≡ o → None ≡ addr_of text
    go None read = sym read
    go (Some n) read =
        let d = IsAddr-addr_of text n read in
        absurd (h (record { octets = d.a ∷ d.b ∷ d.c ∷ d.d ∷ [] }) (record { a = d.a; b = d.b; c = d.c; d = d.d; fit = d.fit; value = refl; spelled = d.spelled }))

pub ruleset parsed_addresses = addr_of-parsed
