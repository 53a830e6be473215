-- Lists in two parts, and searches for a free port.
use Rattle.std.proofs.Common.{◌≡◌, ◌≤◌, ◌<◌, ◌+◌, ◌-◌, ℕ, zero, suc, Bool, true, false, List, Option, Some, None, cond, refl, sym, ap, ◌∙◌, take, drop, arith}
use Rattle.std.specs.List.{count_by, find}
use Rattle.std.specs.Option.{option_map, option_or}
use Rattle.std.proofs.lemmas.List.{take-append-drop}
use Rattle.std.proofs.lemmas.List.Folds.{find-append}
use Rattle.std.proofs.lemmas.List.Sums.{sum_by-take-drop}
use Rattle.vpc_base.proofs.Options.{option_map-or}
use Rattle.vpc_model.specs.Nat.{first_free}

-- ---- lists

-- a search of a list is that of its first k items, or else that of the rest
pub find-take-drop : {X : Type 0} (p : X → Bool) (k : ℕ) (xs : List X) → find p xs ≡ option_or (find p (take k xs)) (find p (drop k xs))
find-take-drop p k xs = ap (find p) (sym (take-append-drop k xs)) ∙ find-append p (take k xs) (drop k xs)

-- and so for a part of what is found
pub found-take-drop : {X Y : Type 0} (f : X → Y) (p : X → Bool) (k : ℕ) (xs : List X) → option_map f (find p xs) ≡ option_or (option_map f (find p (take k xs))) (option_map f (find p (drop k xs)))
found-take-drop f p k xs = ap (option_map f) (find-take-drop p k xs) ∙ option_map-or f (find p (take k xs)) (find p (drop k xs))

pub count_by-take-drop : {X : Type 0} (p : X → Bool) (k : ℕ) (xs : List X) → count_by p (take k xs) + count_by p (drop k xs) ≡ count_by p xs
count_by-take-drop p k xs = sum_by-take-drop (λ x. cond (p x) 1 0) xs k

-- ---- free ports

-- one step of a search
pub first_free-step : (taken : ℕ → Bool) (port end : ℕ) → port < end → first_free taken (end - port) port ≡ cond (taken port) (first_free taken (end - (port + 1)) (port + 1)) (Some port)
first_free-step taken port end below =
    let e : end - port ≡ suc (end - (port + 1)) = omega arith in
    rw e refl

pub first_free-past : (taken : ℕ → Bool) (port end : ℕ) → end ≤ port → first_free taken (end - port) port ≡ None
first_free-past taken port end past =
    let e : end - port ≡ 0 = omega arith in
    rw e refl

-- a search jumps over ports that are taken
pub first_free-jump : (taken : ℕ → Bool) (k port end : ℕ) → port + k ≤ end → ((x : ℕ) → port ≤ x → x < port + k → taken x ≡ true) → first_free taken (end - port) port ≡ first_free taken (end - (port + k)) (port + k)
first_free-jump taken zero port end most all = let e : port ≡ port + zero = omega arith in ap (λ x. first_free taken (end - x) x) e
first_free-jump taken (suc k) port end most all =
    let e : port + 1 + k ≡ port + suc k = omega arith in
    first_free-step taken port end (omega arith)
    ∙ rw (all port (omega arith) (omega arith)) (first_free-jump taken k (port + 1) end (omega arith) (λ x a b. all x (omega arith) (omega arith)))
    ∙ ap (λ x. first_free taken (end - x) x) e

-- a search from a port on goes on from a later one, where all between are taken
pub first_free-over : (taken : ℕ → Bool) (port free end : ℕ) → port ≤ free → free ≤ end → ((x : ℕ) → port ≤ x → x < free → taken x ≡ true) → first_free taken (end - port) port ≡ first_free taken (end - free) free
first_free-over taken port free end from most all =
    let e : port + (free - port) ≡ free = omega arith in
    first_free-jump taken (free - port) port end (omega arith) (λ x a b. all x a (omega arith)) ∙ ap (λ x. first_free taken (end - x) x) e

-- and finds none where all are taken
pub first_free-nothing : (taken : ℕ → Bool) (port free end : ℕ) → port ≤ end → end ≤ free → ((x : ℕ) → port ≤ x → x < free → taken x ≡ true) → first_free taken (end - port) port ≡ None
first_free-nothing taken port free end from past all =
    first_free-over taken port end end from (omega arith) (λ x a b. all x a (omega arith)) ∙ first_free-past taken end end (omega arith)

-- what is taken alike is free alike
pub first_free-alike : (a b : ℕ → Bool) → ((x : ℕ) → a x ≡ b x) → (n port : ℕ) → first_free a n port ≡ first_free b n port
first_free-alike a b alike zero port = refl
first_free-alike a b alike (suc n) port = rw (alike port, first_free-alike a b alike n (port + 1)) refl

-- ---- steps of a search

pub free_here : (taken : ℕ → Bool) (port end : ℕ) (r : Bool) (o : Option ℕ) → port < end → first_free taken (end - port) port ≡ o → r ≡ taken port → r ≡ false → Some port ≡ o
free_here taken port end r o below rest is free = sym (first_free-step taken port end below ∙ rw (sym is ∙ free) refl) ∙ rest

pub free_later : (taken : ℕ → Bool) (port end : ℕ) (r : Bool) (o : Option ℕ) → port < end → first_free taken (end - port) port ≡ o → r ≡ taken port → r ≡ true → first_free taken (end - (port + 1)) (port + 1) ≡ o
free_later taken port end r o below rest is used = sym (first_free-step taken port end below ∙ rw (sym is ∙ used) refl) ∙ rest
