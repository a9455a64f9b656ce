use Rattle.std.proofs.Common.{◌∙◌, ap}
use Rattle.cd_parse.specs.declared.part.Progress.{Progress}
use Rattle.cd_parse.specs.Code.{stage_of}
use Rattle.cd_parse.proofs.PartLemmas.{token_taken}
use Rattle.cd_parse.proofs.part.with_token.Goals as goal

pub returns : goal.returns
returns c =
    let same = c.in_ok-count.ensures.same in
    record {
      turns = token_taken c.args.opens.now c.args.progress.now c.ended.new.progress c.args.terminal c.args.start c.args.end (record c.count.new.progress { stage = c.take.new.stage })
          (stage_of c.count.new.progress.stage) c.in_ok-count.ensures.counts
          (ap (λ (x : Progress). x.starts) same ∙ c.in_ok-push.ensures.ok, ap (λ (x : Progress). x.at) same, ap (λ (x : Progress). x.from) same)
          c.in_ok-take.ensures.takes.0 c.in_ok-take.ensures.takes.1 c.in_ok-take.ensures.fits c.ended.result c.ended.ensures;
    }
