-- The lines of the nodes of a printed tree read as what they were.
use Rattle.std.proofs.Common.{◌≡◌, ◌∙◌, ◌+◌, ◌<◌, ◌≤◌, ◌^◌, ◌==◌, ◌&&◌, ◌++◌, ◌∷◌, [], Bool, List, None, Ok, Option, Result, Some, ap, append_assoc, arith, codes, decimal, if◌then◌else◌, length, lit<, refl, true, ℕ}
use Rattle.std.proofs.lemmas.Bool.{cond-true}
use Rattle.std.proofs.lemmas.Bool.Decides.{nat_tests}
use Rattle.std.specs.Cmp.{first_so, second_so}
use Rattle.std.specs.List.{AllByRecursion}
use Rattle.vpc_base.proofs.Lemmas.{lt-ltb}
use Rattle.vpc_base.proofs.Bytes.{bytes_self}
use Rattle.prefix_text.proofs.AddrLaws.{All-addr_text, addr_of-addr_text}
use Rattle.prefix_text.proofs.NumberLaws.{number_of-decimal}
use Rattle.prefix_text.specs.Addr.{addr_text}
use Rattle.vpc_laws.specs.Types.{Box5, StopText}
use Rattle.vpc_model.specs.Id.{is_id}
use Rattle.vpc_model.specs.Names.{name_text}
use Rattle.vpc_model.proofs.Names.{visible_name}
use Rattle.box_images.specs.Fields.{greatest_on, side_of}
use Rattle.box_images.specs.declared.fields.Side.{Side}
use Rattle.box_images.specs.declared.fields.Side.TheVariants.{Proto, Src, Dst, P, Q}
use Rattle.ordered_cover.specs.Trees.{divides, leaf_count, part_below, part_from, stand_for}
use Rattle.ordered_cover.specs.declared.trees.Node.{Node}
use Rattle.ordered_cover.specs.declared.trees.Node.TheVariants.{Cut, Leaf}
use Rattle.block_report.specs.Trees.{NodeHasIds, cut_line, leaf_line, number_text, side_name}
use Rattle.block_report.specs.Walks.{phase_text}
use Rattle.report_reader.specs.Boxes.{◌>>=◌}
use Rattle.report_reader.specs.Nodes.{boxes_after, end_of_tree, fits_box, leaves_after, next_node, node_before, node_for, node_of, node_or_fault, nodes_from, number_on, side_named}
use Rattle.report_reader.specs.ReadsBack.{Fits}
use Rattle.report_reader.specs.declared.report.ReportFault.{ReportFault}
use Rattle.report_reader.proofs.Printed.{AreWords, IsWord, IsWord-decimal, IsWord-id, joined, words_of-joined}
use Rattle.report_reader.proofs.ReadLines.{visible_phase}
use Rattle.report_reader.proofs.ReadWords.{told_of-texts}

-- ---- the words of nodes

abbrev pub cut_words : Side → ℕ → List (List ℕ)
cut_words s c = side_name s ∷ number_text s c ∷ []

abbrev pub leaf_words : StopText → List (List ℕ)
leaf_words t = phase_text t.phase ∷ name_text t.name ∷ t.id ∷ t.rule ∷ []

cut_text : (cut side number : List ℕ) → ((cut ++ 32 ∷ side) ++ 32 ∷ number) ++ 10 ∷ [] ≡ (cut ++ 32 ∷ (side ++ 32 ∷ number)) ++ 10 ∷ []
cut_text cut side number = simp append_assoc

pub cut_line-joined : (s : Side) (c : ℕ) → cut_line s c ≡ joined (codes "cut") (cut_words s c) ++ 10 ∷ []
cut_line-joined s c = cut_text (codes "cut") (side_name s) (number_text s c)

leaf_text : (leaf phase name id rule : List ℕ) → (leaf ++ 32 ∷ (phase ++ 32 ∷ ((name ++ 32 ∷ id) ++ 32 ∷ rule))) ++ 10 ∷ [] ≡ (leaf ++ 32 ∷ (phase ++ 32 ∷ (name ++ 32 ∷ (id ++ 32 ∷ rule)))) ++ 10 ∷ []
leaf_text leaf phase name id rule = simp append_assoc

pub leaf_line-joined : (t : StopText) → leaf_line t ≡ joined (codes "leaf") (leaf_words t) ++ 10 ∷ []
leaf_line-joined t = leaf_text (codes "leaf") (phase_text t.phase) (name_text t.name) t.id t.rule

-- the text of a node's line, without its newline
abbrev pub node_text : Node StopText → List ℕ
node_text (Cut s c) = joined (codes "cut") (cut_words s c)
node_text (Leaf t) = joined (codes "leaf") (leaf_words t)

-- ---- they are words

IsWord-side_name : (s : Side) → IsWord (side_name s)
IsWord-side_name Proto = IsWord-id (codes "proto") refl
IsWord-side_name Src = IsWord-id (codes "src") refl
IsWord-side_name Dst = IsWord-id (codes "dst") refl
IsWord-side_name P = IsWord-id (codes "p") refl
IsWord-side_name Q = IsWord-id (codes "q") refl

IsWord-addr_text : (n : ℕ) → n < 2 ^ 32 → IsWord (addr_text n)
IsWord-addr_text n fits = record {
  no_blank = All-addr_text n 32 fits (lit< tt) (omega arith);
  no_newline = All-addr_text n 10 fits (lit< tt) (omega arith);
}

IsWord-number_text : (s : Side) (c : ℕ) → c ≤ greatest_on s → IsWord (number_text s c)
IsWord-number_text Proto c fits = IsWord-decimal c (omega (arith, fits))
IsWord-number_text Src c fits = IsWord-addr_text c (omega (arith, fits))
IsWord-number_text Dst c fits = IsWord-addr_text c (omega (arith, fits))
IsWord-number_text P c fits = IsWord-decimal c (omega (arith, fits))
IsWord-number_text Q c fits = IsWord-decimal c (omega (arith, fits))

pub AreWords-cut : (s : Side) (c : ℕ) → c ≤ greatest_on s → AreWords (cut_words s c)
AreWords-cut s c fits = (IsWord-side_name s, (IsWord-number_text s c fits, tt))

pub AreWords-leaf : (t : StopText) → is_id t.id ≡ true → is_id t.rule ≡ true → AreWords (leaf_words t)
AreWords-leaf t id rule = (IsWord-id _ (visible_phase t.phase), (IsWord-id _ (visible_name t.name), (IsWord-id t.id id, (IsWord-id t.rule rule, tt))))

-- ---- and read as the node

side_named-side_name : (s : Side) → side_named (side_name s) ≡ Some s
side_named-side_name Proto = refl
side_named-side_name Src = refl
side_named-side_name Dst = refl
side_named-side_name P = refl
side_named-side_name Q = refl

number_on-number_text : (s : Side) (c : ℕ) → c ≤ greatest_on s → number_on s (number_text s c) ≡ Some c
number_on-number_text Proto c fits = number_of-decimal c 255 fits (omega (arith, fits))
number_on-number_text Src c fits = addr_of-addr_text c (omega (arith, fits))
number_on-number_text Dst c fits = addr_of-addr_text c (omega (arith, fits))
number_on-number_text P c fits = number_of-decimal c 65535 fits (omega (arith, fits))
number_on-number_text Q c fits = number_of-decimal c 65535 fits (omega (arith, fits))

cut_from : (side : Option Side) (number : Side → Option ℕ) (s : Side) (c : ℕ) → side ≡ Some s → number s ≡ Some c
    → ◌≡◌ {A = Option (Node StopText)} (side >>= (λ side. number side >>= (λ number. Some (Cut side number)))) (Some (Cut s c))
cut_from side number s c a_is b_is = rw (a_is, b_is) refl

node_of-cut : (s : Side) (c : ℕ) → c ≤ greatest_on s → node_of (codes "cut" ∷ cut_words s c) ≡ Some (Cut s c)
node_of-cut s c fits = cut_from (side_named (side_name s)) (λ side. number_on side (number_text s c)) s c (side_named-side_name s) (number_on-number_text s c fits)

node_of-leaf : (t : StopText) → is_id t.id ≡ true → is_id t.rule ≡ true → node_of (codes "leaf" ∷ leaf_words t) ≡ Some (Leaf t)
node_of-leaf t id rule = ap (λ (o : Option StopText). o >>= (λ told. Some (Leaf told))) (told_of-texts t id rule)

abbrev if_fits : Box5 → Node StopText → Option (Node StopText)
if_fits b node = if fits_box b node then Some node else None

node_for-read : (b : Box5) (words : List (List ℕ)) (node : Node StopText) → node_of words ≡ Some node → fits_box b node ≡ true → node_for b words ≡ Some node
node_for-read b words node read fits = ap (λ (o : Option (Node StopText)). o >>= if_fits b) read ∙ cond-true _ _ _ fits

-- ---- lines

-- a cut's number fits its side where the box fits
pub within_side : (b : Box5) (s : Side) (c : ℕ) → Fits b → divides c (side_of b s) ≡ true → c ≤ greatest_on s
within_side b s c fits t =
    let le = second_le (side_of b s) c t in
    by s fits le
  where
    second_le : (r : ℕ × ℕ) (c : ℕ) → divides c r ≡ true → c ≤ r.1
    second_le r c t = grind (arith, nat_tests)

    by : (s : Side) → Fits b → c ≤ (side_of b s).1 → c ≤ greatest_on s
    by Proto f le = let h = f.proto in omega (arith, h, le)
    by Src f le = let h = f.src in omega (arith, h, le)
    by Dst f le = let h = f.dst in omega (arith, h, le)
    by P f le = let h = f.p in omega (arith, h, le)
    by Q f le = let h = f.q in omega (arith, h, le)

pub next_node-cut : (b : Box5) (boxes : List Box5) (leaves number : ℕ) (last : Bool) (s : Side) (c : ℕ) → Fits b → divides c (side_of b s) ≡ true
    → next_node (b ∷ boxes) leaves number last (node_text (Cut s c)) ≡ Ok (Some (Cut s c))
next_node-cut b boxes leaves number last s c fits t =
    let le = within_side b s c fits t in
    let split = words_of-joined (codes "cut") (cut_words s c) (IsWord-id (codes "cut") refl) (AreWords-cut s c le) in
    ap (λ (ws : List (List ℕ)). node_or_fault leaves number (node_for b ws)) split
    ∙ ap (λ (o : Option (Node StopText)). node_or_fault leaves number o) (node_for-read b (codes "cut" ∷ cut_words s c) (Cut s c) (node_of-cut s c le) t)

pub next_node-leaf : (b : Box5) (boxes : List Box5) (leaves number : ℕ) (last : Bool) (t : StopText) → leaves < 100000 → is_id t.id ≡ true → is_id t.rule ≡ true
    → next_node (b ∷ boxes) leaves number last (node_text (Leaf t)) ≡ Ok (Some (Leaf t))
next_node-leaf b boxes leaves number last t few id rule =
    let split = words_of-joined (codes "leaf") (leaf_words t) (IsWord-id (codes "leaf") refl) (AreWords-leaf t id rule) in
    ap (λ (ws : List (List ℕ)). node_or_fault leaves number (node_for b ws)) split
    ∙ (ap (λ (o : Option (Node StopText)). node_or_fault leaves number o) (node_for-read b (codes "leaf" ∷ leaf_words t) (Leaf t) (node_of-leaf t id rule) refl)
    ∙ cond-true _ _ _ (lt-ltb leaves 100000 few))

pub next_node-end : (leaves number : ℕ) → leaves ≤ 100000 → next_node [] leaves number true (joined (codes "end") (decimal leaves ∷ [])) ≡ Ok None
next_node-end leaves number few =
    let split = words_of-joined (codes "end") (decimal leaves ∷ []) (IsWord-id (codes "end") refl) (IsWord-decimal leaves (omega (arith, few)), tt) in
    ap (λ (ws : List (List ℕ)). end_of_tree leaves number true ws) split ∙ cond-true _ _ _ (bytes_self (decimal leaves))

-- ---- all nodes

abbrev pub node_texts : List (Node StopText) → List (List ℕ)
node_texts [] = []
node_texts (node ∷ nodes) = node_text node ∷ node_texts nodes

-- the parts of a box fit where it does
pub fits_below : (b : Box5) (s : Side) (c : ℕ) → c ≤ greatest_on s → Fits b → Fits (part_below b s c)
fits_below b Proto c le f = record { proto = omega (arith, le); src = f.src; dst = f.dst; p = f.p; q = f.q }
fits_below b Src c le f = record { proto = f.proto; src = omega (arith, le); dst = f.dst; p = f.p; q = f.q }
fits_below b Dst c le f = record { proto = f.proto; src = f.src; dst = omega (arith, le); p = f.p; q = f.q }
fits_below b P c le f = record { proto = f.proto; src = f.src; dst = f.dst; p = omega (arith, le); q = f.q }
fits_below b Q c le f = record { proto = f.proto; src = f.src; dst = f.dst; p = f.p; q = omega (arith, le) }

pub fits_from : (b : Box5) (s : Side) (c : ℕ) → Fits b → Fits (part_from b s c)
fits_from b Proto c f = record { proto = f.proto; src = f.src; dst = f.dst; p = f.p; q = f.q }
fits_from b Src c f = record { proto = f.proto; src = f.src; dst = f.dst; p = f.p; q = f.q }
fits_from b Dst c f = record { proto = f.proto; src = f.src; dst = f.dst; p = f.p; q = f.q }
fits_from b P c f = record { proto = f.proto; src = f.src; dst = f.dst; p = f.p; q = f.q }
fits_from b Q c f = record { proto = f.proto; src = f.src; dst = f.dst; p = f.p; q = f.q }

pub nodes_from-texts : (boxes : List Box5) (leaves number all : ℕ) (nodes : List (Node StopText)) → stand_for nodes boxes ≡ true → all ≡ leaves + leaf_count nodes → all ≤ 100000
    → AllByRecursion Fits boxes → AllByRecursion NodeHasIds nodes
    → nodes_from boxes true leaves number (node_texts nodes ++ joined (codes "end") (decimal all ∷ []) ∷ []) ≡ Ok nodes
nodes_from-texts [] leaves number all [] t is few fits ids =
    let same : all ≡ leaves = omega (arith, is) in
    ap (λ (n : ℕ). nodes_from [] true leaves number (joined (codes "end") (decimal n ∷ []) ∷ [])) same
    ∙ ap (λ (r : Result (Option (Node StopText)) ReportFault). node_before r (nodes_from [] true leaves (number + 1) [])) (next_node-end leaves number (omega (arith, same, few)))
nodes_from-texts (b ∷ boxes) leaves number all [] t is few fits ids = absurd cc
nodes_from-texts [] leaves number all (node ∷ nodes) t is few fits ids = absurd cc
nodes_from-texts (b ∷ boxes) leaves number all (Leaf told ∷ nodes) t is few fits ids =
    let rest = node_texts nodes ++ joined (codes "end") (decimal all ∷ []) ∷ [] in
    let next = next_node-leaf b boxes leaves number ((length rest == 0) && true) told (omega (arith, is, few)) ids.0.0 ids.0.1 in
    ap (λ (r : Result (Option (Node StopText)) ReportFault). node_before r (nodes_from (boxes_after r (b ∷ boxes)) true (leaves_after r leaves) (number + 1) rest)) next
    ∙ ap (λ (r : Result (List (Node StopText)) ReportFault). node_before (Ok (Some (Leaf told))) r) (nodes_from-texts boxes (leaves + 1) (number + 1) all nodes t (omega (arith, is)) few fits.1 ids.1)
nodes_from-texts (b ∷ boxes) leaves number all (Cut s c ∷ nodes) t is few fits ids =
    let parts = part_below b s c ∷ (part_from b s c ∷ boxes) in
    let divided = first_so (divides c (side_of b s)) (stand_for nodes parts) t in
    let stands = second_so (divides c (side_of b s)) (stand_for nodes parts) t in
    let le = within_side b s c fits.0 divided in
    let rest = node_texts nodes ++ joined (codes "end") (decimal all ∷ []) ∷ [] in
    let next = next_node-cut b boxes leaves number ((length rest == 0) && true) s c fits.0 divided in
    ap (λ (r : Result (Option (Node StopText)) ReportFault). node_before r (nodes_from (boxes_after r (b ∷ boxes)) true (leaves_after r leaves) (number + 1) rest)) next
    ∙ ap (λ (r : Result (List (Node StopText)) ReportFault). node_before (Ok (Some (Cut s c))) r)
    (nodes_from-texts parts leaves (number + 1) all nodes stands is few (fits_below b s c le fits.0, (fits_from b s c fits.0, fits.1)) ids.1)
