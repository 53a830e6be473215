use Rattle.query_words.proofs.WordLemmas.{word_at-line}
use Rattle.query_words.proofs.words.LineWordsNumberedWords.word.Goals as goal

pub returns : goal.returns
returns c = word_at-line c.args.self.now.words.now c.args.number _ _ _ c.requires.first c.requires.last
