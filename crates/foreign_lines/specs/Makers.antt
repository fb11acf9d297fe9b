-- The makers by their names on a command line.
use Rattle.std.specs.Prelude.{ℕ, List, codes}
use Rattle.application_texts.specs.declared.makers.Application.{Application}
use Rattle.application_texts.specs.declared.makers.Application.TheVariants as application
use Rattle.application_texts.specs.declared.makers.Maker.{Maker}
use Rattle.application_texts.specs.declared.makers.Maker.TheVariants as maker
use Rattle.foreign_text.specs.declared.converted.Foreign as foreign
use Rattle.foreign_text.specs.declared.converted.Foreign.TheVariants as of

abbrev pub foreign_name : foreign.Foreign → List ℕ
foreign_name of.Django = codes "django"
foreign_name of.Werkzeug = codes "werkzeug"
foreign_name of.Ldap = codes "ldap"
foreign_name of.Ldif = codes "ldif"
foreign_name of.Passlib = codes "passlib"
foreign_name of.Dovecot = codes "dovecot"
foreign_name of.Spring = codes "spring"
foreign_name of.Elasticsearch = codes "elasticsearch"
foreign_name of.AspNet = codes "aspnet"
foreign_name of.Cisco = codes "cisco"
foreign_name of.Mosquitto = codes "mosquitto"
foreign_name of.MediaWiki = codes "mediawiki"
foreign_name of.Grub = codes "grub"
foreign_name of.Postgres = codes "postgres"

abbrev pub application_name : Application → List ℕ
application_name application.Jenkins = codes "jenkins"
application_name application.Nextcloud = codes "nextcloud"
application_name application.HomeAssistant = codes "home-assistant"
application_name application.CouchDb = codes "couchdb"
application_name application.Grafana = codes "grafana"
application_name application.MySql = codes "mysql"
application_name application.Gitea = codes "gitea"

abbrev pub maker_name : Maker → List ℕ
maker_name (maker.Foreign f) = foreign_name f
maker_name (maker.Application a) = application_name a
