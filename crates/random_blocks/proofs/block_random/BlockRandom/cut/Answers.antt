use Rattle.random_blocks.proofs.Words.{cut_is}
use Rattle.random_blocks.proofs.block_random.BlockRandom.cut.Goals as goal

pub returns : goal.returns
returns g c = cut_is c.self.inside.block c.self.inside.seed c.self.inside.at c.self.inside.faults c.word_at-word.result
    c.args.self.now c.self.view_is c.requires c.word_at-word.ensures
