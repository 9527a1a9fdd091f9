mod Insides
