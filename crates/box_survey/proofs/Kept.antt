-- What was found stays.
use Rattle.std.proofs.Common.{ℕ, ◌≤◌, Option, None, Some, refl, arith}
use Rattle.std.specs.Option.{IfSome, IsSome, IsSomeAnd}
use Rattle.vpc_base.specs.Header.{IsBefore}
use Rattle.vpc_base.specs.declared.headers.Header.{Header}
use Rattle.box_survey.specs.Findings.{AreNoGreater}
use Rattle.box_survey.specs.declared.findings.Findings.{Findings}
use Rattle.box_survey.proofs.Order.{not_before_itself, not_before_trans}

pub least_itself : (o : Option ℕ) → IfSome o (λ i. IsSomeAnd o (λ k. k ≤ i))
least_itself None = tt
least_itself (Some i) = omega arith

pub outside_itself : (o : Option Header) → IfSome o (λ h. IsSomeAnd o (λ k. ¬ IsBefore h k))
outside_itself None = tt
outside_itself (Some h) = not_before_itself h

pub no_greater_itself : (found : Findings) → AreNoGreater found found
no_greater_itself found = record { least = least_itself found.least; outside = outside_itself found.outside }

least_through : (o m n : Option ℕ) → IfSome o (λ i. IsSomeAnd m (λ k. k ≤ i)) → IfSome m (λ i. IsSomeAnd n (λ k. k ≤ i)) → IfSome o (λ i. IsSomeAnd n (λ k. k ≤ i))
least_through None m n f g = tt
least_through (Some i) None n f g = absurd f
least_through (Some i) (Some j) None f g = absurd g
least_through (Some i) (Some j) (Some k) f g = omega arith

pub least_at : (m n : Option ℕ) (a : ℕ) → IsSomeAnd m (λ k. k ≤ a) → IfSome m (λ i. IsSomeAnd n (λ k. k ≤ i)) → IsSomeAnd n (λ k. k ≤ a)
least_at None n a f g = absurd f
least_at (Some j) None a f g = absurd g
least_at (Some j) (Some k) a f g = omega arith

pub least_some : (m n : Option ℕ) → IsSome m → IfSome m (λ i. IsSomeAnd n (λ k. k ≤ i)) → IsSome n
least_some None n f g = absurd (cc)
least_some (Some j) None f g = absurd g
least_some (Some j) (Some k) f g = refl

pub outside_at : (m n : Option Header) (h : Header) → IsSomeAnd m (λ k. ¬ IsBefore h k) → IfSome m (λ i. IsSomeAnd n (λ k. ¬ IsBefore i k)) → IsSomeAnd n (λ k. ¬ IsBefore h k)
outside_at None n h f g = absurd f
outside_at (Some j) None h f g = absurd g
outside_at (Some j) (Some k) h f g = not_before_trans h j k f g

outside_through : (o m n : Option Header) → IfSome o (λ i. IsSomeAnd m (λ k. ¬ IsBefore i k)) → IfSome m (λ i. IsSomeAnd n (λ k. ¬ IsBefore i k)) → IfSome o (λ i. IsSomeAnd n (λ k. ¬ IsBefore i k))
outside_through None m n f g = tt
outside_through (Some h) m n f g = outside_at m n h f g

pub no_greater_through : (old now new : Findings) → AreNoGreater old now → AreNoGreater now new → AreNoGreater old new
no_greater_through old now new f g = record { least = least_through old.least now.least new.least f.least g.least; outside = outside_through old.outside now.outside new.outside f.outside g.outside }
