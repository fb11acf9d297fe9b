use Rattle.foreign_text.proofs.Spelled.{bare_kept, django_kept, ldap_kept, passlib_kept, salted_kept, werkzeug_kept}
use Rattle.foreign_text.proofs.laws.keeps_the_fields.Goals as goal

pub returns : goal.returns
returns c = record {
  django = django_kept;
  werkzeug = werkzeug_kept;
  ldap = ldap_kept;
  passlib = passlib_kept;
  salted = salted_kept;
  bare = bare_kept;
}
