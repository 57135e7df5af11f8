-- The bytes of texts by the names of their characters (ASCII).
use Rattle.std.specs.Prelude.{ℕ}

abbrev pub tab : ℕ
tab = 9

abbrev pub line_feed : ℕ
line_feed = 10

abbrev pub carriage_return : ℕ
carriage_return = 13

abbrev pub space : ℕ
space = 32

abbrev pub hash : ℕ
hash = 35

abbrev pub comma : ℕ
comma = 44

abbrev pub hyphen : ℕ
hyphen = 45

abbrev pub slash : ℕ
slash = 47

abbrev pub digit_0 : ℕ
digit_0 = 48

abbrev pub digit_8 : ℕ
digit_8 = 56

abbrev pub digit_9 : ℕ
digit_9 = 57

abbrev pub question_mark : ℕ
question_mark = 63

abbrev pub capital_b : ℕ
capital_b = 66

abbrev pub capital_n : ℕ
capital_n = 78

abbrev pub capital_o : ℕ
capital_o = 79

abbrev pub capital_s : ℕ
capital_s = 83

abbrev pub capital_x : ℕ
capital_x = 88

abbrev pub underscore : ℕ
underscore = 95

abbrev pub letter_a : ℕ
letter_a = 97

abbrev pub letter_x : ℕ
letter_x = 120

abbrev pub letter_y : ℕ
letter_y = 121

abbrev pub letter_z : ℕ
letter_z = 122
