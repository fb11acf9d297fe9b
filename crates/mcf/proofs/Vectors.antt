-- Texts and what they mean, by computing.
use Rattle.std.specs.Prelude.{◌≡◌, [], ◌∷◌, codes, Ok, Err, refl}
use Rattle.pieces.specs.Pieces.{pieces_at}
use Rattle.mcf.specs.Grammar.{mcf}
use Rattle.mcf.specs.declared.error.Error.TheVariants.{DelimiterInvalid, EncodingInvalid, FieldInvalid}
use Rattle.mcf.specs.declared.error.Error.TheVariants.{IdentifierInvalid}

no_text : mcf [] ≡ Err DelimiterInvalid
unfolding mcf pieces_at
no_text = refl

dollar_alone : mcf (codes "$") ≡ Err DelimiterInvalid
unfolding mcf pieces_at
dollar_alone = refl

dollar_at_end : mcf (codes "$6$salt$") ≡ Err DelimiterInvalid
unfolding mcf pieces_at
dollar_at_end = refl

no_identifier : mcf (codes "$$foo") ≡ Err IdentifierInvalid
unfolding mcf pieces_at
no_identifier = refl

hyphen_at_end : mcf (codes "$foo-$bar") ≡ Err IdentifierInvalid
unfolding mcf pieces_at
hyphen_at_end = refl

hyphen_in_front : mcf (codes "$-a$x") ≡ Err IdentifierInvalid
unfolding mcf pieces_at
hyphen_in_front = refl

no_field : mcf (codes "$6$$x y") ≡ Err FieldInvalid
unfolding mcf pieces_at
no_field = refl

blank_in_field : mcf (codes "$6$a b$$x") ≡ Err EncodingInvalid
unfolding mcf pieces_at
blank_in_field = refl

identifier_alone : mcf (codes "$argon2-id") ≡ Ok (record { id = codes "argon2-id"; fields = [] })
unfolding mcf pieces_at
identifier_alone = refl

-- the first vector of "Unix crypt using SHA-256 and SHA-512"
sha_crypt_text : mcf (codes "$5$saltstring$5B8vYYiY.CVt1RlTTf8KbXBH3hsxY/GNooZaBBGWEc5")
    ≡ Ok (record {
      id = codes "5";
      fields = codes "saltstring" ∷ codes "5B8vYYiY.CVt1RlTTf8KbXBH3hsxY/GNooZaBBGWEc5" ∷ [];
    })
unfolding mcf pieces_at
sha_crypt_text = refl

-- every character of a field beside letters and digits
field_characters : mcf (codes "$x-1$ln=16,r=8,p=1$./+=,-")
    ≡ Ok (record { id = codes "x-1"; fields = codes "ln=16,r=8,p=1" ∷ codes "./+=,-" ∷ [] })
unfolding mcf pieces_at
field_characters = refl
