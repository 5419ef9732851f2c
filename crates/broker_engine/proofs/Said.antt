-- The reasons' words are short.
use Rattle.std.proofs.Common.{◌≡◌, ltb, true, length, refl}
use Rattle.octet_reading.specs.declared.why.Why.{Why}
use Rattle.octet_reading.specs.declared.why.Why.TheVariants as why
use Rattle.octet_reading.specs.Words.{word_of}

-- the word of each reason has fewer than 256 octets
pub word_short : (w : Why) → ltb (length (word_of w)) 256 ≡ true
word_short why.Short = refl
word_short why.UnknownCode = refl
word_short why.BadText = refl
word_short why.BadBoolean = refl
word_short why.SizeDiffers = refl
word_short why.CountDiffers = refl
word_short why.RepeatedKey = refl
word_short why.TooDeep = refl
word_short why.ReservedFlag = refl
word_short why.BadRanges = refl
word_short why.BadStruct = refl
word_short why.BadSessionHeader = refl
word_short why.TrailingOctets = refl
word_short why.UnknownClass = refl
word_short why.UnknownControl = refl
word_short why.ContentNotAllowed = refl
word_short why.TooFar = refl
word_short why.BadSize = refl
word_short why.BadFlags = refl
word_short why.BadType = refl
word_short why.BadTrack = refl
word_short why.TooManyChannels = refl
word_short why.TooLarge = refl
word_short why.TooMuchOpen = refl
word_short why.BadHeader = refl
word_short why.Mechanism = refl
word_short why.TuneRange = refl
word_short why.VirtualHost = refl
word_short why.OutOfOrder = refl
word_short why.Silent = refl
