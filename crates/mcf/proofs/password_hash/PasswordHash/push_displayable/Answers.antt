use Rattle.std.proofs.Common.{rules, ◌≡◌}
use Rattle.std.proofs.lemmas.List.{take_at}
use Rattle.mcf.proofs.Pushed.{caused}
use Rattle.mcf.proofs.password_hash.PasswordHash.push_displayable.Goals as goal

pub returns-clause-fault : goal.returns-clause-fault
returns-clause-fault g c =
    let printed : c.as_slice.result.now ≡ g.D.FieldText.shown c.args.displayable = search (rules, take_at) in
    λ fine. rw (← printed) (caused _ c.as_slice.result.now _ _ c.push_bytes.result c.push_bytes.ensures.pushed)
