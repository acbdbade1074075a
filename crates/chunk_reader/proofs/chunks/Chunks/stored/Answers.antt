use Rattle.std.proofs.Common.{◌≡◌, ◌∙◌}
use Rattle.std.specs.List.{flat_map}
use Rattle.chunk_reader.specs.Grammar.{IsChunk, sample_text}
use Rattle.chunk_reader.proofs.Stored.{in_slice, whole_samples, is_stored}
use Rattle.chunk_reader.proofs.Whole.{chunk_again}
use Rattle.chunk_reader.proofs.chunks.Chunks.stored.Goals.{After-sample_bytes, After-new}
use Rattle.chunk_reader.proofs.chunks.Chunks.stored.Goals as goal

texts : (c : After-sample_bytes)
    → c.sample_bytes.result.now ≡ flat_map sample_text c.requires.known.0
texts c =
    c.sample_bytes.ensures _ _ _
    (in_slice _ _ _ _ _ _ (c.as_slice.ensures.value ∙ c.self.view_is) c.requires.known.1)

found : (c : After-new) → c.sample_bytes.result.now ≡ flat_map sample_text c.requires.known.0
    → IsChunk c.args.self.now c.args.reference c.args.mint c.args.maxt c.new.result
found c e = is_stored _ _ _ _ _ _ _ c.requires.known.1 e c.new.ensures

pub sample_bytes-requires : goal.sample_bytes-requires
sample_bytes-requires c = (
  (c.args.mint, c.args.maxt),
  c.requires.known.0,
  in_slice _ _ _ _ _ _ (c.as_slice.ensures.value ∙ c.self.view_is) c.requires.known.1,
)

pub new-requires : goal.new-requires
new-requires c = whole_samples _ _ (texts c)

pub returns-clause-exact : goal.returns-clause-exact
returns-clause-exact c =
    chunk_again _ _ _ _ _ (found c (texts (goal.at.returns-clause-exact c).After-sample_bytes))

pub returns-clause-found : goal.returns-clause-found
returns-clause-found c = found c (texts (goal.at.returns-clause-found c).After-sample_bytes)
