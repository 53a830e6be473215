-- Appliances by their numbers.
use Rattle.std.proofs.Common.{◌≡◌, ◌∙◌, ◌++◌, ◌+◌, ◌<◌, ◌≤◌, ◌==◌, ◌∷◌, [], Bool, List, Some, ap, arith, cond, drop, false, get_or, length, refl, sym, true, ℕ}
use Rattle.std.specs.List.{find, position_from}
use Rattle.std.specs.Prelude.{Err, IfOk, Ok, Result, option_map}
use Rattle.std.proofs.lemmas.Grind.{common_steps}
use Rattle.std.proofs.lemmas.List.{drop_all, drop_more}
use Rattle.header_boxes.specs.declared.boxes.Box5.{Box5}
use Rattle.vpc_model.specs.declared.numbers.EniNo.{EniNo}
use Rattle.number_tables.specs.Entries.{value_at}
use Rattle.number_tables.specs.declared.tables.Entry.{Entry}
use Rattle.vpc_model.specs.Appliances.{Appliances}
use Rattle.appliances.specs.Passing.{number_of}

-- the interfaces of appliances as keys of their numbers, from a number on
abbrev pub numbered : ℕ → Appliances → List (Entry ℕ)
numbered n [] = []
numbered n (a ∷ others) = record { key = a.0.0; value = n } ∷ numbered (n + 1) others

-- what stands at an interface is the number of its appliance
pub value_at-numbered : (n : ℕ) (appliances : Appliances) (k : ℕ) → value_at k (numbered n appliances) ≡ position_from (λ a. a.0.0 == k) n appliances
value_at-numbered n [] k = refl
value_at-numbered n (a ∷ others) k = by (a.0.0 == k) ∙ ap (cond (a.0.0 == k) (Some n)) (value_at-numbered (n + 1) others k)
  where
    by : (b : Bool) → option_map (λ (e : Entry ℕ). e.value) (cond b (Some (record { key = a.0.0; value = n })) (find (λ (e : Entry ℕ). e.key == k) (numbered (n + 1) others)))
        ≡ cond b (Some n) (value_at k (numbered (n + 1) others))
    by true = refl
    by false = refl

-- one more is numbered
pub numbered-drop : (appliances : Appliances) (k : ℕ) (a : EniNo × List Box5) → k < length appliances → a ≡ get_or appliances k a
    → numbered k (drop k appliances) ≡ (record { key = a.0.0; value = k } ∷ []) ++ numbered (k + 1) (drop (k + 1) appliances)
numbered-drop appliances k a within is = ap (numbered k) (drop_more appliances k a within ∙ ap (λ x. x ∷ drop (k + 1) appliances) (sym is))

-- those that are numbered, where none is left
all_numbered : (entries : List (Entry ℕ)) (appliances : Appliances) (n : ℕ) → length appliances ≤ n → entries ++ numbered n (drop n appliances) ≡ numbered 0 appliances → entries ≡ numbered 0 appliances
all_numbered entries appliances n all is = grind (arith, common_steps, drop_all n appliances all, is)

-- a table of them tells the number of an interface's appliance
pub value_at-table : {E : Type 0} (r : Result (List (Entry ℕ)) E) (entries : List (Entry ℕ)) (appliances : Appliances) (n : ℕ) → length appliances ≤ n
    → entries ++ numbered n (drop n appliances) ≡ numbered 0 appliances
    → IfOk r (λ t. (k : ℕ) → value_at k t ≡ value_at k entries)
    → IfOk r (λ t. (e : EniNo) → value_at e.0 t ≡ number_of appliances e)
value_at-table (Ok t) entries appliances n all is table = λ e. table e.0 ∙ (ap (value_at e.0) (all_numbered entries appliances n all is) ∙ value_at-numbered 0 appliances e.0)
value_at-table (Err x) entries appliances n all is table = tt
