-- Facts of an answer that may be wanting.
use Rattle.std.proofs.Common.{Err, IfOk, Ok, OnOk, Result}

-- what follows from a fact
pub if_ok : {A E : Type 0} (P Q : A → Type 0) (r : Result A E) → ((a : A) → P a → Q a) → IfOk r P → IfOk r Q
if_ok P Q (Ok a) follows h = follows a h
if_ok P Q (Err e) follows h = tt

-- what follows from two facts
pub if_ok_two : {A E : Type 0} (P R Q : A → Type 0) (r : Result A E) → ((a : A) → P a → R a → Q a) → IfOk r P → IfOk r R → IfOk r Q
if_ok_two P R Q (Ok a) follows h k = follows a h k
if_ok_two P R Q (Err e) follows h k = tt

-- what follows from three facts
pub on_ok_three : {E : Type 0} (A B C D : Type 0) (r : Result (Unit {0}) E) → (A → B → C → D) → OnOk r A → OnOk r B → OnOk r C → OnOk r D
on_ok_three A B C D (Ok u) follows a b c = follows a b c
on_ok_three A B C D (Err e) follows a b c = tt
