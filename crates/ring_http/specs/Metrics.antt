-- All metrics in Prometheus' text format, version 0.0.4, as a function of the answers and of what
-- is known beside the table.
use Rattle.std.specs.Prelude.{ℕ, List, ◌++◌, codes, length}
use Rattle.ring_http.specs.Figures.{figures_text}
use Rattle.ring_http.specs.Gauges.{family_text}
use Rattle.ring_http.specs.Samples.{single}
use Rattle.ring_http.specs.declared.beside.Figures.{Figures}
use Rattle.ring_http.specs.declared.gauges.Gauge.TheVariants.{Members, Term, Leader, Informed}
use Rattle.ring_http.specs.declared.picture.GroupPicture.{GroupPicture}

-- the number of groups
abbrev pub groups_text : ℕ → List ℕ
groups_text count = single (codes "ringd_groups") (codes "Number of groups.") (codes "gauge") count

-- the place of the last answer
abbrev pub entries_text : ℕ → List ℕ
entries_text place = single (codes "ringd_entries_total")
    (codes "Place of this answer in the history: each command, question and report has one.")
    (codes "counter") place

-- the metrics that have a sample for each group
abbrev pub families_text : List GroupPicture → List ℕ
families_text groups = family_text Members groups ++
    (family_text Term groups ++ (family_text Leader groups ++ family_text Informed groups))

-- all metrics
abbrev pub metrics_of : ℕ → List GroupPicture → Figures → List ℕ
metrics_of place groups figures = groups_text (length groups) ++ (entries_text place
    ++ (families_text groups ++ figures_text figures))
