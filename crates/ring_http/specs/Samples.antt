-- Metrics in Prometheus' text format, version 0.0.4: a heading, and below it samples.
use Rattle.std.specs.Prelude.{ℕ, List, [], ◌++◌, Option, None, Some, codes, decimal}

-- a line of a heading
abbrev pub heading_line : List ℕ → List ℕ → List ℕ → List ℕ
heading_line begin name text = begin ++ (name ++ (codes " " ++ (text ++ codes "\n")))

-- the heading of a metric: its name, its meaning and its kind
abbrev pub heading : List ℕ → List ℕ → List ℕ → List ℕ
heading name help kind =
    heading_line (codes "# HELP ") name help ++ heading_line (codes "# TYPE ") name kind

-- a sample without a label
abbrev pub sample : List ℕ → ℕ → List ℕ
sample name value = name ++ (codes " " ++ (decimal value ++ codes "\n"))

-- a sample with a label, given the text before it, as `{group="`
abbrev pub labelled : List ℕ → List ℕ → List ℕ → ℕ → List ℕ
labelled name key label value =
    name ++ (key ++ (label ++ (codes "\"} " ++ (decimal value ++ codes "\n"))))

-- the same, if there is a value
abbrev pub given_labelled : List ℕ → List ℕ → List ℕ → Option ℕ → List ℕ
given_labelled name key label None = []
given_labelled name key label (Some value) = labelled name key label value

-- a metric that has one sample
abbrev pub single : List ℕ → List ℕ → List ℕ → ℕ → List ℕ
single name help kind value = heading name help kind ++ sample name value

-- the same, if there is a value
abbrev pub given_single : List ℕ → List ℕ → List ℕ → Option ℕ → List ℕ
given_single name help kind None = []
given_single name help kind (Some value) = single name help kind value
