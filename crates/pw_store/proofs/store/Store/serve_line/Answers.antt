use Rattle.std.proofs.Common.{◌∙◌, sym, None, Some}
use Rattle.pw_file.specs.Commands as of
use Rattle.pw_file.proofs.Listed.{command_named}
use Rattle.pw_store.proofs.Serving.{asks_is}
use Rattle.pw_store.proofs.store.Store.serve_line.Goals as goal

pub serve_other-requires-clause-other : goal.serve_other-requires-clause-other
serve_other-requires-clause-other g c =
    asks_is g.P.Policy.policy c.args.line.now (Some (of.Check c.in-Some-Check.field-0-0 c.in-Some-Check.field-0-1.now)) c.requires.short
    (sym (rw c.in-Some-Check.field-0-is at c.in-Some-Check.ensures.command))

pub serve_other-requires-in-Some-List-clause-other : goal.serve_other-requires-in-Some-List-clause-other
serve_other-requires-in-Some-List-clause-other g c =
    asks_is g.P.Policy.policy c.args.line.now (Some of.Listing) c.requires.short (sym (rw c.in-Some-List.field-0-is at c.in-Some-List.ensures.command))

pub serve_other-requires-in-None-clause-other : goal.serve_other-requires-in-None-clause-other
serve_other-requires-in-None-clause-other g c = asks_is g.P.Policy.policy c.args.line.now None c.requires.short (sym c.in-None.ensures.command)

-- the policy has the command, since the line is one
pub serve_remove-requires-clause-takes : goal.serve_remove-requires-clause-takes
serve_remove-requires-clause-takes g c =
    let is = sym (rw c.in-Some-Remove.field-0-is at c.in-Some-Remove.ensures.command) in
    (rw is at (command_named g.P.Policy.policy g.met.P.Policy.lawful c.args.line.now)).1

-- a text that no run sets
pub returns-then-refuses-clause-served : goal.returns-then-refuses-clause-served
returns-then-refuses-clause-served g c =
    c.serve_refused.ensures.served c.args.line.now c.in-Some-Set.user c.in-Some-Set.text.now
    (c.requires.short, sym (rw c.in-Some-Set.field-0-is at c.in-Some-Set.ensures.command)) (sym c.refuses.ensures.refuses ∙ c.if-refuses.true)
