use Rattle.std.proofs.Common.{rules, ◌≡◌, None, Some}
use Rattle.any_check.proofs.verdicts.AnyCheck.verdict.Goals as goal

pub returns-in-None : goal.returns-in-None
returns-in-None c =
    let none : c.args.self.now.limits ≡ None = search rules in
    record {
      verdict = rw none
          (rw (c.args.self.now.first, c.args.self.now.second, c.args.self.now.third, c.args.self.now.fourth, c.args.self.now.sha256, c.args.self.now.sha512, c.args.self.now.sha1) at
          c.check_any.ensures.verdict);
    }

pub returns-in-Some : goal.returns-in-Some
returns-in-Some c =
    let some : c.args.self.now.limits ≡ Some c.in-Some.limits = search rules in
    record {
      verdict = rw some
          (rw (c.args.self.now.first, c.args.self.now.second, c.args.self.now.third, c.args.self.now.fourth, c.args.self.now.sha256, c.args.self.now.sha512, c.args.self.now.sha1) at
          c.check_any_within.ensures.verdict);
    }
