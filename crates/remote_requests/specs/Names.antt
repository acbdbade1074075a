-- Names of metrics: `[a-zA-Z_:][a-zA-Z0-9_:]*`.
use Rattle.std.specs.Prelude.{ℕ, Bool, true, ◌&&◌, ◌||◌, ◌==◌, List, [], ◌∷◌, codes}
use Rattle.std.specs.List.{list_all}
use Rattle.labels.specs.Labels.{Labels, value_of}
use Rattle.labels.specs.Names.{starts_name, continues_name}

-- whether a metric's name may begin with the byte
abbrev pub starts_metric : ℕ → Bool
starts_metric b = starts_name b || b == 58

-- whether a metric's name may go on with the byte
abbrev pub continues_metric : ℕ → Bool
continues_metric b = continues_name b || b == 58

-- whether a text is empty, or the name of a metric
abbrev pub may_name_metric : List ℕ → Bool
may_name_metric [] = true
may_name_metric (b ∷ bs) = starts_metric b && list_all continues_metric bs

-- whether the value of `__name__` is absent, or the name of a metric
abbrev pub names_metric : Labels → Bool
names_metric labels = may_name_metric (value_of labels (codes "__name__"))
