use Rattle.std.proofs.Common.{◌≡◌, ◌+◌, ◌*◌, ◌++◌, length}
use Rattle.crypt_text.specs.NewSettings.{turned_groups}
use Rattle.crypt_text.proofs.sha1_settings.push_groups.Given as goal

abbrev pub invariant-groups : goal.invariant-groups
invariant-groups l =
    (l.setting ≡ l.fn.setting ++ turned_groups l.i l.bytes) × (length l.setting ≡ length l.fn.setting + 4 * l.i)
