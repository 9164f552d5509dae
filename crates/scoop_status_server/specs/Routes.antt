-- Which request gets which page.
use Rattle.std.specs.Prelude.{ℕ, List, Bool, true, false, bytes_eq, codes, if◌then◌else◌}
use Rattle.scoop_status_server.specs.declared.pages.Page.{Page}
use Rattle.scoop_status_server.specs.declared.pages.Page.TheVariants.{People, Json, Metrics, Health, Missing, Refused}

-- the page of a path, for a request that only reads
abbrev pub page_for : List ℕ → Page
page_for path =
    if bytes_eq path (codes "/") then People
    else if bytes_eq path (codes "/status.json") then Json
    else if bytes_eq path (codes "/metrics") then Metrics
    else if bytes_eq path (codes "/healthz") then Health
    else Missing

abbrev pub page_at : Bool → List ℕ → Page
page_at false path = Refused
page_at true path = page_for path
