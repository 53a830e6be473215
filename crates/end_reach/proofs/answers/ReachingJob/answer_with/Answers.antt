use Rattle.std.proofs.Common.{◌≡◌, All, IfSome, List, map, string_bytes, subst, sym, true}
use Rattle.vpc_base.proofs.Results.{if_ok}
use Rattle.listing_text.proofs.BodyLemmas.{next_start}
use Rattle.vpc_laws.specs.Types.{Description, End}
use Rattle.vpc_model.specs.Sound.{is_end}
use Rattle.end_reach.specs.Answered.{IsAnswerTo, IsPrinted}
use Rattle.end_reach.specs.Asked.{AreStarts, AreTargets}
use Rattle.end_reach.specs.Texts.{row_lines_from}
use Rattle.end_reach.specs.Told.{wanted}
use Rattle.end_reach.proofs.AnswerLemmas.{told_by}
use Rattle.end_reach.proofs.answers.ReachingJob.answer_with.Goals as goal

pub answer_body-requires-clause-start : goal.answer_body-requires-clause-start
answer_body-requires-clause-start g c =
    let d = c.args.f.now in
    let q = c.args.self.now.query.now in
    subst (λ (x : Description). IfSome c.in_ok-body.body.next (λ y. is_end x y.0 ≡ true)) (sym c.network-n.ensures)
    (next_start (wanted d q c.as_slice.result.now) (row_lines_from d) (λ e. is_end d e ≡ true) c.as_slice-3.result.now c.in_ok-body.body.text.items c.in_ok-body.body.count c.in_ok-body.body.next
    (subst (λ (l : List End). All (λ e. is_end d e ≡ true) l) (sym c.as_slice-3.ensures.value)
    (subst (λ (x : Description). All (λ (e : End). is_end x e ≡ true) c.in_ok-starts.starts.items) c.network-n.ensures c.in_ok-starts.ensures.described))
    c.in_ok-body.ensures)

pub returns : goal.returns
returns g c =
    let d = c.args.f.now in
    let q = c.args.self.now.query.now in
    let words = map string_bytes c.args.self.now.words.now in
    let body = c.in_ok-body.body in
    if_ok (λ a. IsPrinted c.network-n.result.now words body.text.items body.count body.next a.status a.text.items) (λ a. IsAnswerTo d q words a.status a.text.items) c.answer_body.result
    (λ a printed. record {
      targets = c.as_slice.result.now;
      targets_are = subst (λ (l : List _). AreTargets d q.pairs.dst q.goal l) (sym c.as_slice.ensures.value) (subst (λ (x : Description). AreTargets x q.pairs.dst q.goal c.in_ok-targets.targets.items) c.network-n.ensures c.in_ok-targets.ensures);
      starts = c.as_slice-3.result.now;
      starts_are = subst (λ (l : List End). AreStarts d q.pairs.src q.start q.goal l) (sym c.as_slice-3.ensures.value) (subst (λ (x : Description). AreStarts x q.pairs.src q.start q.goal c.in_ok-starts.starts.items) c.network-n.ensures c.in_ok-starts.ensures.starts);
      told = told_by d q words c.as_slice.result.now c.as_slice-3.result.now body.text.items body.count body.next a.status a.text.items c.in_ok-body.ensures
          (subst (λ (x : Description). IsPrinted x words body.text.items body.count body.next a.status a.text.items) c.network-n.ensures printed);
    })
    c.answer_body.ensures
