use Rattle.std.proofs.Common.{ap, inl}
use Rattle.random_blocks.specs.Blocks.{BlockValue}
use Rattle.random_blocks.proofs.Words.{first_is}
use Rattle.random_blocks.proofs.block_random.BlockRandom.draw.Goals as goal

pub returns-in-Ok : goal.returns-in-Ok
returns-in-Ok g c = inl (first_is c.fill_bytes.new.buf c.seed_of-self-inside.result c.self.inside.faults c.word_at.result
    c.args.self.now (ap (λ (v : BlockValue). v.faults) c.self.view_is) c.requires c.fill_bytes.auto.buf
    c.seed_of-self-inside.ensures c.word_at.ensures)
