-- Foreign texts as stored texts of the one spelling, or the first cause that there is none.
use Rattle.std.specs.Prelude.{ℕ, Bool, true, false, not, ◌&&◌, List, Ok, if◌then◌else◌, codes}
use Rattle.foreign_text.specs.Answers.{Answer}
use Rattle.foreign_text.specs.AspNet.{aspnet}
use Rattle.foreign_text.specs.Cisco.{cisco}
use Rattle.foreign_text.specs.Django.{django}
use Rattle.foreign_text.specs.Dovecot.{dovecot}
use Rattle.foreign_text.specs.Elasticsearch.{elasticsearch}
use Rattle.foreign_text.specs.Grub.{grub}
use Rattle.foreign_text.specs.Ldap.{ldap, ldif}
use Rattle.foreign_text.specs.MediaWiki.{mediawiki}
use Rattle.foreign_text.specs.Mosquitto.{mosquitto}
use Rattle.foreign_text.specs.Passlib.{passlib}
use Rattle.foreign_text.specs.Postgres.{postgres}
use Rattle.foreign_text.specs.Spring.{spring}
use Rattle.foreign_text.specs.Werkzeug.{werkzeug}
use Rattle.foreign_text.specs.Names.{begins}
use Rattle.foreign_text.specs.declared.converted.Foreign.{Foreign}
use Rattle.foreign_text.specs.declared.converted.Foreign.TheVariants as of

-- the makers, and what each text of theirs is read as
abbrev pub by_maker : Foreign → List ℕ → Answer
by_maker of.Django = django
by_maker of.Werkzeug = werkzeug
by_maker of.Ldap = ldap
by_maker of.Ldif = ldif
by_maker of.Passlib = passlib
by_maker of.Dovecot = dovecot
by_maker of.Spring = spring
by_maker of.Elasticsearch = elasticsearch
by_maker of.AspNet = aspnet
by_maker of.Cisco = cisco
by_maker of.Mosquitto = mosquitto
by_maker of.MediaWiki = mediawiki
by_maker of.Grub = grub
by_maker of.Postgres = postgres

-- a maker's own texts begin with `$`, or those of a dump in LDIF have to be looked at too
abbrev pub has_own_dollar : Foreign → Bool
has_own_dollar of.Django = false
has_own_dollar of.Werkzeug = false
has_own_dollar of.Ldap = false
has_own_dollar of.Ldif = true
has_own_dollar of.Passlib = true
has_own_dollar of.Dovecot = false
has_own_dollar of.Spring = false
has_own_dollar of.Elasticsearch = false
has_own_dollar of.AspNet = false
has_own_dollar of.Cisco = true
has_own_dollar of.Mosquitto = true
has_own_dollar of.MediaWiki = false
has_own_dollar of.Grub = false
has_own_dollar of.Postgres = false

-- A maker's own texts have colons. The lines of a dump in LDIF have LDAP's texts, which are values of bytes and go on to the line's end.
abbrev pub has_colons : Foreign → Bool
has_colons of.Django = false
has_colons of.Werkzeug = true
has_colons of.Ldap = false
has_colons of.Ldif = true
has_colons of.Passlib = false
has_colons of.Dovecot = false
has_colons of.Spring = false
has_colons of.Elasticsearch = false
has_colons of.AspNet = false
has_colons of.Cisco = false
has_colons of.Mosquitto = false
has_colons of.MediaWiki = true
has_colons of.Grub = false
has_colons of.Postgres = true

-- Without a tag a text is the password itself: one that begins with `*` or `!` isn't of a locked account.
abbrev pub has_clear_texts : Foreign → Bool
has_clear_texts of.Django = false
has_clear_texts of.Werkzeug = false
has_clear_texts of.Ldap = true
has_clear_texts of.Ldif = true
has_clear_texts of.Passlib = false
has_clear_texts of.Dovecot = false
has_clear_texts of.Spring = false
has_clear_texts of.Elasticsearch = false
has_clear_texts of.AspNet = false
has_clear_texts of.Cisco = false
has_clear_texts of.Mosquitto = false
has_clear_texts of.MediaWiki = false
has_clear_texts of.Grub = false
has_clear_texts of.Postgres = false

-- A text that begins with `$` is a stored text already, but where the maker has such texts of its own.
unfoldable pub converted : Foreign → List ℕ → Answer
converted foreign text =
    if not (has_own_dollar foreign) && begins text (codes "$") then Ok text else by_maker foreign text
