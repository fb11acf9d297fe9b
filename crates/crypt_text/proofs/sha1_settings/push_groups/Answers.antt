use Rattle.std.proofs.Common.{arith}
use Rattle.crypt_text.proofs.Groups.{group_more, no_group}
use Rattle.crypt_text.proofs.sha1_settings.push_groups.Goals as goal

pub groups-init : goal.groups-init
groups-init c = (no_group c.args.setting.now c.args.bytes.now, omega arith)

pub groups-preserved : goal.groups-preserved
groups-preserved c = (
  group_more c.args.setting.now c.groups.setting c.push_group.new.setting c.args.bytes.now c.groups.i c.groups.invariant.0
      c.push_group.ensures.added,
  let before = c.groups.invariant.1 in
      let more = c.push_group.ensures.len in
      omega (arith, before, more),
)
