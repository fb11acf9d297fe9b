-- The makers of texts, those of `foreign_text` and those of applications, and what each text is read as.
use Rattle.std.specs.Prelude.{ℕ, Bool, true, false, not, ◌&&◌, List, Ok, if◌then◌else◌, codes}
use Rattle.pieces.specs.Pieces.{begins}
use Rattle.foreign_text.specs.Answers.{Answer}
use Rattle.foreign_text.specs.Converted as foreign
use Rattle.application_texts.specs.CouchDb.{couchdb}
use Rattle.application_texts.specs.Gitea.{gitea}
use Rattle.application_texts.specs.Grafana.{grafana}
use Rattle.application_texts.specs.HomeAssistant.{home_assistant}
use Rattle.application_texts.specs.Jenkins.{jenkins}
use Rattle.application_texts.specs.MySql.{mysql}
use Rattle.application_texts.specs.Nextcloud.{nextcloud}
use Rattle.application_texts.specs.declared.makers.Application.{Application}
use Rattle.application_texts.specs.declared.makers.Application.TheVariants as application
use Rattle.application_texts.specs.declared.makers.Maker as makers
use Rattle.application_texts.specs.declared.makers.Maker.TheVariants as maker

-- the applications
abbrev pub by_application : Application → List ℕ → Answer
by_application application.Jenkins = jenkins
by_application application.Nextcloud = nextcloud
by_application application.HomeAssistant = home_assistant
by_application application.CouchDb = couchdb
by_application application.Grafana = grafana
by_application application.MySql = mysql
by_application application.Gitea = gitea

-- an application's own texts begin with `$`
abbrev pub has_own_dollar : Application → Bool
has_own_dollar application.Jenkins = true
has_own_dollar application.Nextcloud = false
has_own_dollar application.HomeAssistant = false
has_own_dollar application.CouchDb = false
has_own_dollar application.Grafana = false
has_own_dollar application.MySql = false
has_own_dollar application.Gitea = false

-- an application's own texts have colons
abbrev pub application_has_colons : Application → Bool
application_has_colons application.Jenkins = true
application_has_colons application.Nextcloud = false
application_has_colons application.HomeAssistant = false
application_has_colons application.CouchDb = false
application_has_colons application.Grafana = true
application_has_colons application.MySql = false
application_has_colons application.Gitea = true

-- a text of an application; one that begins with `$` is a stored text already, but where the application has such texts of its own
unfoldable pub of_application : Application → List ℕ → Answer
of_application a text = if not (has_own_dollar a) && begins text (codes "$") then Ok text else by_application a text

-- of any maker
abbrev pub read_by : makers.Maker → List ℕ → Answer
read_by (maker.Foreign f) text = foreign.converted f text
read_by (maker.Application a) text = of_application a text

abbrev pub has_colons : makers.Maker → Bool
has_colons (maker.Foreign f) = foreign.has_colons f
has_colons (maker.Application a) = application_has_colons a

-- of CouchDB's file a text that isn't hashed yet is the password itself; MySQL's older digests begin with `*`
abbrev pub is_clear_of : Application → Bool
is_clear_of application.Jenkins = false
is_clear_of application.Nextcloud = false
is_clear_of application.HomeAssistant = false
is_clear_of application.CouchDb = true
is_clear_of application.Grafana = false
is_clear_of application.MySql = true
is_clear_of application.Gitea = false

abbrev pub has_clear_texts : makers.Maker → Bool
has_clear_texts (maker.Foreign f) = foreign.has_clear_texts f
has_clear_texts (maker.Application a) = is_clear_of a
