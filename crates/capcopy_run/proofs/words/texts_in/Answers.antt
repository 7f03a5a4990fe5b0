use Rattle.std.proofs.Common.{IfSome, Err, subst, slice_get}
use Rattle.std.specs.declared.env.FillError.{FillError}
use Rattle.capcopy_run.specs.Runs.{TellsWord}
use Rattle.capcopy_run.proofs.AskedWords.{strange_word, no_word, one_word, two_words, three_words, long_fourth, short_fourth}
use Rattle.capcopy_run.proofs.words.texts_in.Goals as goal

pub returns-in-Empty : goal.returns-in-Empty
returns-in-Empty g c = no_word _ c.in-Empty.ensures

pub returns-in-Unknown : goal.returns-in-Unknown
returns-in-Unknown g c = strange_word _ 0 c.in-Unknown.ensures

pub returns-in-Empty-find_word : goal.returns-in-Empty-find_word
returns-in-Empty-find_word g c = one_word _ c.in-Text.first c.in-Text.ensures c.in-Empty-find_word.ensures

pub returns-in-Unknown-find_word : goal.returns-in-Unknown-find_word
returns-in-Unknown-find_word g c = strange_word _ 1 c.in-Unknown-find_word.ensures

pub returns-in-Empty-find_word-2 : goal.returns-in-Empty-find_word-2
returns-in-Empty-find_word-2 g c = two_words _ c.in-Text.first c.in-Text-find_word.second c.in-Text.ensures c.in-Text-find_word.ensures c.in-Empty-find_word-2.ensures

pub returns-in-Unknown-find_word-2 : goal.returns-in-Unknown-find_word-2
returns-in-Unknown-find_word-2 g c = strange_word _ 2 c.in-Unknown-find_word-2.ensures

pub returns-in-Err-NotPresent : goal.returns-in-Err-NotPresent
returns-in-Err-NotPresent g c =
    three_words _ c.in-Text.first c.in-Text-find_word.second c.in-Text-find_word-2.third c.word.new.room c.in-Text.ensures c.in-Text-find_word.ensures c.in-Text-find_word-2.ensures (subst (λ (f : FillError). IfSome (g.E.Words.words c.args.words.now) (λ words. TellsWord (slice_get words 3) (Err f) c.word.new.room)) c.in-Err-NotPresent.field-0-is c.in-Err-NotPresent.ensures.tells)

pub returns-in-Err-TooLong : goal.returns-in-Err-TooLong
returns-in-Err-TooLong g c = long_fourth _ c.word.new.room (subst (λ (f : FillError). IfSome (g.E.Words.words c.args.words.now) (λ words. TellsWord (slice_get words 3) (Err f) c.word.new.room)) c.in-Err-TooLong.field-0-is c.in-Err-TooLong.ensures.tells)

pub returns-in-Ok : goal.returns-in-Ok
returns-in-Ok g c = short_fourth _ _ c.word.new.room c.in-Ok.ensures.tells
