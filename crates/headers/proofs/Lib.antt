mod HeaderLaws
