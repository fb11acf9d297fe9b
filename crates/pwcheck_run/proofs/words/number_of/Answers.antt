use Rattle.std.proofs.Common.{arith, rules, ◌≡◌, ◌<◌, ◌^◌, ap, ◌∙◌, sym}
use Rattle.std.specs.Fmt.{decimal}
use Rattle.std.proofs.lemmas.Fmt.{parse-decimal}
use Rattle.pwcheck_run.proofs.words.number_of.Goals.{then-n-least-via-then-n-least}
use Rattle.pwcheck_run.proofs.words.number_of.Goals.{then-n-least-via-else-n-least+then-n-most}
use Rattle.pwcheck_run.proofs.words.number_of.Goals.{then-n-least-via-else-n-least+else-n-most+then-not-is_decimal}
use Rattle.pwcheck_run.proofs.words.number_of.Goals as goal

pub returns-then-n-least : goal.returns-then-n-least
returns-then-n-least c = λ n least most is.
    let small : n < 2 ^ 64 = omega (arith, most, c.ranges.most.fits) in
    let read = parse-decimal 64 n c.args.word.now c.parse.result small small is c.parse.ensures.value.0 in
    let same : c.in-Ok.n ≡ n = cc in
    elim c.then-n-least.branch [
      | then-n-least-via-then-n-least w ↦ omega (arith, w.if-n-least.true, same, least)
      | then-n-least-via-else-n-least+then-n-most w ↦ omega (arith, w.if-n-most.true, same, most)
      | then-n-least-via-else-n-least+else-n-most+then-not-is_decimal w ↦
          let t = w.if-not-is_decimal.ensures.1 (is ∙ ap decimal (sym same)) in search rules
    ]

pub returns-in-Err : goal.returns-in-Err
returns-in-Err c = λ n least most is.
    let small : n < 2 ^ 64 = omega (arith, most, c.ranges.most.fits) in
    let read = parse-decimal 64 n c.args.word.now c.parse.result small small is c.parse.ensures.value.0 in
    cc
