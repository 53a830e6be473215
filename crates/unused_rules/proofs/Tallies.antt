-- Rules judged one after another.
use Rattle.std.proofs.Common.{◌+◌, ◌<◌, ◌∙◌, ◌++◌, ◌∷◌, [], List, Option, ap, get_or, length, refl, sym, take, ℕ}
use Rattle.std.proofs.lemmas.List.{append-nil, map-append, take_more}
use Rattle.std.proofs.lemmas.List.Elements.{All-append, All-cons, All-nil}
use Rattle.vpc_base.proofs.Steps.{pushed-flat_map}
use Rattle.query_words.specs.declared.queries.Query.{Query}
use Rattle.vpc_laws.specs.Types.{Description}
use Rattle.unused_rules.specs.Chunks.{IsIdle}
use Rattle.unused_rules.specs.Lines.{AddsLine, AddsLines, IsJudged, Judged, judged_line}
use Rattle.unused_rules.specs.declared.chunks.Chunk.{Chunk}
use Rattle.unused_rules.specs.declared.rules.RuleName.{RuleName}

abbrev of_rule : Judged → RuleName
of_rule j = j.rule

-- what holds while rules are judged: their lines were added, and the chunk that is kept decides nothing
pub record AreUnderWay (d : Description) (query : Query) (rules : List RuleName) (chunk : Option Chunk) (old new : List ℕ) : Type 0 where
  pub lines : AddsLines d query rules old new
  pub idle : IsIdle d query chunk

-- none was judged
pub adds_none : (d : Description) (query : Query) (old : List ℕ) → AddsLines d query [] old old
adds_none d query old = record { judged = []; of_rules = refl; each = All-nil (IsJudged d query); text_is = sym (append-nil old) }

-- one rule more
pub adds_more : (d : Description) (query : Query) (rules : List RuleName) (i : ℕ) (e : RuleName) (old mid new : List ℕ)
    → i < length rules → AddsLines d query (take i rules) old mid → AddsLine d query (get_or rules i e) mid new
    → AddsLines d query (take (i + 1) rules) old new
adds_more d query rules i e old mid new below before adds =
    let rule = get_or rules i e in
    let j : Judged = record { rule = rule; need = adds.need } in
    record {
      judged = before.judged ++ j ∷ [];
      of_rules = map-append of_rule before.judged (j ∷ [])
          ∙ (ap (λ (rs : List RuleName). rs ++ rule ∷ []) before.of_rules ∙ sym (take_more rules i e below));
      each = All-append (IsJudged d query) before.judged (j ∷ []) before.each (All-cons (IsJudged d query) j [] adds.is_need (All-nil (IsJudged d query)));
      text_is = pushed-flat_map (judged_line d) before.judged j old mid new before.text_is adds.text_is;
    }
