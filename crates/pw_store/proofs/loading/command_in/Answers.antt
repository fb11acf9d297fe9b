use Rattle.std.proofs.Common.{◌∙◌, Bor, List, ℕ, sym, ap}
use Rattle.std.specs.Option.{option_map}
use Rattle.line_program.proofs.LastTab.{not_text}
use Rattle.pw_file.specs.Commands.{command, remove_of}
use Rattle.pw_file.proofs.Cuts.{removal_other, removal_read}
use Rattle.pw_store.proofs.Lines.{as_named, as_same}
use Rattle.pw_store.proofs.loading.command_in.Goals as goal

pub returns-in_default : goal.returns-in_default
returns-in_default g c = record {
  command = c.parse.ensures.command ∙ sym (ap (command g.P.Policy.policy) (as_same c.args.line.now
      (sym c.removed_name.ensures.name ∙ ap (option_map (λ (name : Bor (List ℕ)). name.now)) c.in_default.is)));
}

pub returns-in-Ok : goal.returns-in-Ok
returns-in-Ok g c =
    let p = g.P.Policy.policy in
    let name = c.in-Some.name.now in
    record {
      command = c.removal.ensures.command ∙ ap (remove_of p) c.in-Ok.ensures.cases.0
          ∙ sym (ap (command p) (as_named c.args.line.now name (sym c.in-Some.ensures.name)) ∙ removal_read p name c.in-Ok.ensures.cases.1);
    }

pub returns-in-Err : goal.returns-in-Err
returns-in-Err g c =
    let p = g.P.Policy.policy in
    let name = c.in-Some.name.now in
    record {
      command = sym (ap (command p) (as_named c.args.line.now name (sym c.in-Some.ensures.name))
          ∙ removal_other p name (not_text name c.in-Err.ensures.cases.0));
    }
