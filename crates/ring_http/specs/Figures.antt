-- Metrics of what is known beside the table, as a function of it.
use Rattle.std.specs.Prelude.{ℕ, ◌+◌, ◌-◌, ◌/◌, ◌%◌, List, [], ◌∷◌, ◌++◌, Option, None, Some, codes, decimal, slice_index}
use Rattle.std.specs.List.{flat_map}
use Rattle.ring_id.specs.Refusals.{number_in_table, word_in_table}
use Rattle.ring_id.specs.declared.refusal.Refusal.{Refusal}
use Rattle.ring_id.specs.declared.refusal.Refusal.TheVariants.{BadLine, NoGroup, Exists, GroupLimit, Member, NotMember, RingFull, Empty, TermLimit, NoTerm, NotInTerm, OneWay, NoMemory, SeatSpent}
use Rattle.ring_http.specs.Samples.{given_labelled, given_single, heading, labelled, single}
use Rattle.ring_http.specs.declared.beside.Figures.{Figures}
use Rattle.ring_http.specs.declared.beside.JournalFigures.{JournalFigures}
use Rattle.ring_http.specs.declared.beside.Served.{Served}

-- the clients that are served now, if any are served
abbrev pub now_in : Option Served → Option ℕ
now_in None = None
now_in (Some served) = Some served.now

-- the clients that are served at most, if any are served
abbrev pub limit_in : Option Served → Option ℕ
limit_in None = None
limit_in (Some served) = Some served.limit

-- a sample for each port, given the name of the metric and the value of each
abbrev pub ports_text : List ℕ → ℕ → Option ℕ → ℕ → List ℕ
ports_text name sessions campaigns viewers =
    labelled name (codes "{port=\"") (codes "sessions") sessions
    ++ (given_labelled name (codes "{port=\"") (codes "campaigns") campaigns
    ++ labelled name (codes "{port=\"") (codes "http") viewers)

-- the heading of the clients that are served now
abbrev pub clients_heading : List ℕ
clients_heading = heading (codes "ringd_clients")
    (codes "Number of connections of this port that are served now.") (codes "gauge")

-- how many clients of each port are served now
abbrev pub clients_text : Figures → List ℕ
clients_text figures = clients_heading
    ++ ports_text (codes "ringd_clients")
    figures.sessions.now (now_in figures.campaigns) figures.viewers.now

-- the heading of the clients that are served at most
abbrev pub limits_heading : List ℕ
limits_heading = heading (codes "ringd_clients_limit")
    (codes "Most connections of this port that are served at a time.") (codes "gauge")

-- how many clients of each port are served at most
abbrev pub limits_text : Figures → List ℕ
limits_text figures = limits_heading
    ++ ports_text (codes "ringd_clients_limit")
    figures.sessions.limit (limit_in figures.campaigns) figures.viewers.limit

-- the accepts that failed
abbrev pub accepts_text : ℕ → List ℕ
accepts_text count = single (codes "ringd_failed_accepts_total")
    (codes "Number of accepts on all ports that failed.") (codes "counter") count

-- all refusals, by their numbers
abbrev pub all_refusals : List Refusal
all_refusals = BadLine ∷ NoGroup ∷ Exists ∷ GroupLimit ∷ Member ∷ NotMember ∷ RingFull ∷ Empty
    ∷ TermLimit ∷ NoTerm ∷ NotInTerm ∷ OneWay ∷ NoMemory ∷ SeatSpent ∷ []

-- the count of a refusal: the first count is that of number 1
abbrev pub count_of : Refusal → List ℕ → ℕ
count_of refusal counts = slice_index counts (number_in_table refusal - 1)

-- the sample of a refusal
abbrev pub refusal_sample : List ℕ → Refusal → List ℕ
refusal_sample counts refusal = labelled (codes "ringd_refusals_total")
    (codes "{refusal=\"") (word_in_table refusal) (count_of refusal counts)

-- how many answers were each of these refusals
abbrev pub counts_text : List ℕ → List Refusal → List ℕ
counts_text counts refusals = flat_map (refusal_sample counts) refusals

-- the heading of the refusals
abbrev pub refusals_heading : List ℕ
refusals_heading = heading (codes "ringd_refusals_total")
    (codes "Number of lines and questions on all ports that were refused with this word.")
    (codes "counter")

-- how many answers were each refusal
abbrev pub refusals_text : List ℕ → List ℕ
refusals_text counts = refusals_heading ++ counts_text counts all_refusals

-- the resident memory, if it is known
abbrev pub resident_text : Option ℕ → List ℕ
resident_text bytes = given_single (codes "process_resident_memory_bytes")
    (codes "Resident memory size in bytes.") (codes "gauge") bytes

-- the size of a journal
abbrev pub bytes_text : ℕ → List ℕ
bytes_text bytes = single (codes "ringd_journal_bytes")
    (codes "Size of the text of the journal in bytes.") (codes "gauge") bytes

-- its syncs
abbrev pub syncs_text : ℕ → List ℕ
syncs_text syncs = single (codes "ringd_journal_syncs_total")
    (codes "Number of syncs of the journal that succeeded.") (codes "counter") syncs

-- the last digit of a number in decimal
abbrev pub digit : ℕ → ℕ
digit number = 48 + number % 10

-- its last six digits
abbrev pub six_digits : ℕ → List ℕ
six_digits number = digit (number / 100000) ∷ digit (number / 10000) ∷ digit (number / 1000)
    ∷ digit (number / 100) ∷ digit (number / 10) ∷ digit number ∷ []

-- microseconds as seconds with six decimals
abbrev pub seconds : ℕ → List ℕ
seconds micros = (decimal (micros / 1000000) ++ codes ".") ++ six_digits micros

-- the heading of the time that syncs took
abbrev pub sync_time_heading : List ℕ
sync_time_heading = heading (codes "ringd_journal_sync_seconds_total")
    (codes "Seconds in syncs of the journal that succeeded.") (codes "counter")

-- how long the syncs of a journal took, given their microseconds
abbrev pub sync_time_text : ℕ → List ℕ
sync_time_text micros = sync_time_heading
    ++ (codes "ringd_journal_sync_seconds_total" ++ (codes " " ++ (seconds micros ++ codes "\n")))

-- how a journal is, if there is one
abbrev pub journal_text : Option JournalFigures → List ℕ
journal_text None = []
journal_text (Some journal) = bytes_text journal.bytes
    ++ (syncs_text journal.syncs ++ sync_time_text journal.micros)

-- all of it
abbrev pub figures_text : Figures → List ℕ
figures_text figures = clients_text figures ++ (limits_text figures
    ++ (accepts_text figures.failed_accepts ++ (refusals_text figures.refusals
    ++ (resident_text figures.resident ++ journal_text figures.journal))))
